-- Longest match: every row is looked at, and of those that contain the address the longest answers.
use Rattle.std.specs.Prelude.{◌≡◌, ℕ, ◌≤◌, true, false, nat_lt, List, [], ◌∷◌, Option, Some, None, All, Contains, MatchOption, if◌then◌else◌}
use Rattle.prefix_width.specs.Prefix.{Block, contains}

-- the longer of two rows; the first where both are of one length
abbrev pub longer : {X : Type 0} → Option (Block × X) → Option (Block × X) → Option (Block × X)
longer None other = other
longer (Some r) None = Some r
longer (Some r) (Some s) = if nat_lt r.0.len s.0.len then Some s else Some r

-- the row, if its prefix contains the address
abbrev pub only_if_in : {X : Type 0} → ℕ → ℕ → Block × X → Option (Block × X)
only_if_in w a r = if contains w r.0 a then Some r else None

-- of all rows whose prefix contains the address, the longest
abbrev pub longest : {X : Type 0} → ℕ → List (Block × X) → ℕ → Option (Block × X)
longest w [] a = None
longest w (r ∷ rs) a = longer (only_if_in w a r) (longest w rs a)

-- the same by its property: a row that contains the address, and no row that contains it is longer
abbrev pub IsLongest : {X : Type 0} → ℕ → List (Block × X) → ℕ → Option (Block × X) → Type 0
IsLongest w rows a result =
    MatchOption result
    (All (λ row. contains w row.0 a ≡ false) rows)
    (λ best. Contains rows best × (contains w best.0 a ≡ true) × All (λ row. contains w row.0 a ≡ true → row.0.len ≤ best.0.len) rows)
