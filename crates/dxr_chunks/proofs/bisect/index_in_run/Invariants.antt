-- What is left is halved by each step.
use Rattle.std.proofs.Common.{ℕ, ◌-◌, ◌^◌, ◌≤◌}
use Rattle.dxr_chunks.proofs.FindLemmas.{IsNarrowed}
use Rattle.dxr_chunks.proofs.bisect.index_in_run.Given as goal

abbrev pub invariant-loop-size : goal.invariant-loop-size
invariant-loop-size g l = record {
  narrowed : IsNarrowed (g.C.CellReads.cells l.fragments) l.first l.end l.offset l.low l.size;
  grew : l.fn.steps ≤ l.steps;
  few : (bits : ℕ) → l.end - l.first ≤ 2 ^ bits → (l.steps - l.fn.steps ≤ bits) × (l.size ≤ 2 ^ (bits - (l.steps - l.fn.steps)));
}

abbrev pub decreases-loop-size : goal.decreases-loop-size
decreases-loop-size g l = l.size
