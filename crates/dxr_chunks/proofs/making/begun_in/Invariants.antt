-- The cells so far start at or below the address.
use Rattle.std.proofs.Common.{◌≡◌, ℕ, ◌+◌, ◌-◌, ◌<◌, ◌≤◌, Some, length}
use Rattle.std.specs.List.{slice_get}
use Rattle.dxr_chunks.proofs.making.begun_in.Given as goal

abbrev pub invariant-loop-begun : goal.invariant-loop-begun
invariant-loop-begun l = record {
  within : l.begun ≤ length l.cells;
  below : (cell : ℕ × ℕ) → 0 < l.begun → slice_get l.cells (l.begun - 1) ≡ Some cell → cell.0 < l.base + 1;
}

abbrev pub decreases-loop-begun : goal.decreases-loop-begun
decreases-loop-begun l = length l.cells - l.begun
