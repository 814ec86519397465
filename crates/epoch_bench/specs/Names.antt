-- What the versions of the benchmark's tables name.
use Rattle.std.specs.Prelude.{ℕ, List, []}

-- no version names an index
abbrev pub no_names : ℕ → List (ℕ × ℕ)
no_names version = []
