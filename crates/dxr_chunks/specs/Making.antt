-- A run in the making, from cells whose starts ascend.
use Rattle.std.specs.Prelude.{◌≡◌, ℕ, ◌-◌, ◌<◌, ◌≤◌, List, ◌++◌, Some, length, slice_get}
use Rattle.dxr_chunks.specs.Fragments.{AreFragments, index_in}

-- so many cells, the first ones, start below an address
pub record ArePassed (cells : List (ℕ × ℕ)) (a count : ℕ) : Type 0 where
  pub within : count ≤ length cells
  pub below : (cell : ℕ × ℕ) → 0 < count → slice_get cells (count - 1) ≡ Some cell → cell.0 < a
  pub above : (cell : ℕ × ℕ) → slice_get cells count ≡ Some cell → a ≤ cell.0

-- fragments of chunk k that answer as the cells do are put behind others
pub record AddsRun (cells : List (ℕ × ℕ)) (k : ℕ) (old new : List (ℕ × ℕ)) : Type 0 where
  pub run : List (ℕ × ℕ)
  pub added : new ≡ old ++ run
  pub fragments : AreFragments (index_in cells) k run
