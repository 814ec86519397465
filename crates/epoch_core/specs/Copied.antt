-- What the copies that the control prepares stand for.
use Rattle.std.specs.Prelude.{ℕ, List}

-- the value of each handle, and the pairs of an index and a number that the version names anew
pub record Copied (T : Type 0) : Type 0 where
  pub values : List T
  pub fresh : List (ℕ × ℕ)
