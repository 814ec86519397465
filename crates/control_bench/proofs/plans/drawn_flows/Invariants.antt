-- There are as many flows as were drawn.
use Rattle.std.proofs.Common.{◌≡◌, length}
use Rattle.control_bench.proofs.plans.drawn_flows.Given as goal

abbrev pub invariant-loop-number : goal.invariant-loop-number
invariant-loop-number g l = length l.flows.items ≡ l._number
