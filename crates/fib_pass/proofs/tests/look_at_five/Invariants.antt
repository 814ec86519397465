use Rattle.std.proofs.Common.{◌≡◌}
use Rattle.fib_pass.proofs.tests.look_at_five.Given as goal

abbrev pub invariant-loop-host : goal.invariant-loop-host
invariant-loop-host g l =
    (l.publisher.key ≡ l.control.plan)
    × (l.publisher.own.version ≡ l.control.image.version)
    × (l.publisher.table ≡ l.initial.publisher.table)
    × (l.pass.seat.table ≡ l.initial.pass.seat.table)
