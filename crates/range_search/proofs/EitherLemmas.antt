-- Cells are narrow, or wide.
use Rattle.std.proofs.Common.{◌≡◌, ℕ, List, [], ◌∷◌, refl, arith, length}
use Rattle.range_search.specs.Bisect.{either_cells}

pub either_wide : (narrow wide : List (ℕ × ℕ)) → length narrow ≡ 0 → either_cells narrow wide ≡ wide
either_wide [] wide e = refl
either_wide (c ∷ narrow) wide e = absurd (omega (arith, e))

pub either_narrow : (narrow wide : List (ℕ × ℕ)) → (length narrow ≡ 0 → ⊥) → either_cells narrow wide ≡ narrow
either_narrow [] wide e = absurd (e refl)
either_narrow (c ∷ narrow) wide e = refl
