use Rattle.std.proofs.Common.{◌≡◌}
use Rattle.fib_soak.specs.Rows.{rows_after}
use Rattle.fib_soak.proofs.reader.look_up_while.Given as goal

abbrev pub invariant-loop-turn : goal.invariant-loop-turn
invariant-loop-turn g l = l.rows.rows.items ≡ rows_after l.known.course.now.prefixes.items l.rows.turns
