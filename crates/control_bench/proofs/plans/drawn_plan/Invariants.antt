-- The plan has as many commands as were drawn.
use Rattle.std.proofs.Common.{◌≡◌, length}
use Rattle.control_bench.proofs.plans.drawn_plan.Given as goal

abbrev pub invariant-loop-number : goal.invariant-loop-number
invariant-loop-number g l = length l.plan.commands ≡ l._number
