-- The last of ascending cells that begins at or before an address.
use Rattle.std.specs.Prelude.{◌≡◌, ℕ, ◌-◌, ◌<◌, ◌≤◌, List, [], ◌∷◌, Some, length, slice_get}

-- the cells are narrow ones, or wide ones where there is no narrow one
abbrev pub either_cells : List (ℕ × ℕ) → List (ℕ × ℕ) → List (ℕ × ℕ)
either_cells [] wide = wide
either_cells (cell ∷ narrow) wide = cell ∷ narrow

-- the cell before a place begins at or before the address and has the index, and the cell at the place begins behind it
pub record IsLast {S : Type 0} (number : S → ℕ) (cells : List (S × ℕ)) (address index : ℕ) : Type 0 where
  pub place : ℕ
  pub within : place ≤ length cells
  pub before : 0 < place → (c : S × ℕ) × (slice_get cells (place - 1) ≡ Some c) × (number c.0 ≤ address) × (index ≡ c.1)
  pub behind : (d : S × ℕ) → slice_get cells place ≡ Some d → address < number d.0
