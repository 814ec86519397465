-- The run answers as the cells do, up to the next cell.
use Rattle.std.proofs.Common.{◌-◌, ◌*◌, ◌^◌, ◌<◌, ◌≤◌, length}
use Rattle.dxr_chunks.proofs.FillLemmas.{IsFilled}
use Rattle.dxr_chunks.proofs.run.add_run.Given as goal

abbrev pub invariant-loop-passed : goal.invariant-loop-passed
invariant-loop-passed l = record {
  some : 0 < l.passed;
  within : l.passed ≤ length l.cells;
  filled : IsFilled l.cells (l.chunk * 2 ^ 16) l.fn.fragments.items l.fragments.items l.passed l.index;
}

abbrev pub decreases-loop-passed : goal.decreases-loop-passed
decreases-loop-passed l = length l.cells - l.passed
