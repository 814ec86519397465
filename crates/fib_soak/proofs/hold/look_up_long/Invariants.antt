use Rattle.std.proofs.Common.{◌≡◌}
use Rattle.fib_soak.specs.Rows.{rows_after}
use Rattle.fib_soak.proofs.hold.look_up_long.Given as goal

abbrev pub invariant-loop : goal.invariant-loop
invariant-loop g l = l.rows.rows.items ≡ rows_after l.known.course.now.prefixes.items l.rows.turns
