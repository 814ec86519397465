-- Names for the tables that tests and benchmarks run.
use Rattle.std.specs.Prelude.{ℕ, ◌+◌, ◌%◌, Bool, ◌&&◌, nat_lt, if◌then◌else◌, List, [], ◌∷◌}

-- whether version v names an index: of each K versions n do, and version 0 doesn't
abbrev pub is_turn : ℕ → ℕ → ℕ → Bool
is_turn K n v = nat_lt 0 v && nat_lt (v % K) n

-- the index, one of 1 to n in turn, and its number, one of 1 to 3 in turn
abbrev pub turn : ℕ → ℕ → ℕ × ℕ
turn K v = (1 + v % K, 1 + v % 3)

-- what the version names
abbrev pub turns : ℕ → ℕ → ℕ → List (ℕ × ℕ)
turns K n v = if is_turn K n v then turn K v ∷ [] else []
