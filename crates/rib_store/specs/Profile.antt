-- The profiles of scripts: what becomes of a group's layout when a path leaves.
use Rattle.std.specs.Prelude.{ℕ, ◌≤◌, ◌==◌, Bool}

-- a profile: 1, where the weights of the paths that are left give a new layout, or 2, where the layout is kept
abbrev pub IsProfile : ℕ → Type 0
IsProfile n = (1 ≤ n) × (n ≤ 2)

-- whether a profile keeps the layout of a group that a path leaves
abbrev pub keeps : ℕ → Bool
keeps profile = profile == 2
