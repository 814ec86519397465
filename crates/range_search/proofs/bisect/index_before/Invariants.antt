-- What is left is halved by each step.
use Rattle.std.proofs.Common.{ℕ, ◌+◌, ◌-◌, ◌*◌, ◌^◌, ◌<◌, ◌≤◌, length}
use Rattle.range_search.proofs.HalfLemmas.{IsHalfway}
use Rattle.range_search.proofs.bisect.index_before.Given as goal

abbrev pub invariant-loop-size : goal.invariant-loop-size
invariant-loop-size g l = record {
  halfway : IsHalfway g.S.Start.number l.cells (g.S.Start.number l.limit - 1) l.low l.size l.index;
  grew : l.fn.steps ≤ l.steps;
  halved : 2 ^ (l.steps - l.fn.steps) * l.size ≤ length l.cells;
  few : (bits : ℕ) → length l.cells < 2 ^ bits → l.steps ≤ l.fn.steps + bits;
}

abbrev pub decreases-loop-size : goal.decreases-loop-size
decreases-loop-size g l = l.size
