-- Each plan so far is counted.
use Rattle.std.proofs.Common.{◌≡◌}
use Rattle.control_bench.proofs.runs.run_drawn.Given as goal

abbrev pub invariant-loop-drawn : goal.invariant-loop-drawn
invariant-loop-drawn g l = l.totals.plans ≡ l._drawn
