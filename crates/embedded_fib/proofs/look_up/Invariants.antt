use Rattle.std.proofs.Common.{◌≡◌}
use Rattle.embedded_fib.proofs.look_up.Given as goal

abbrev pub invariant-loop-flow : goal.invariant-loop-flow
invariant-loop-flow g l = l.inside.standing.seat.table ≡ l.initial.inside.standing.seat.table
