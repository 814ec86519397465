use Rattle.std.proofs.Common.{◌≡◌}
use Rattle.fib_soak.proofs.hold.publish_beside.Given as goal

abbrev pub invariant-loop : goal.invariant-loop
invariant-loop g l =
    (l.publisher.key ≡ l.control.plan) × (l.publisher.own.version ≡ l.control.image.version)
