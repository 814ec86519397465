use Rattle.std.proofs.Common.{◌≡◌}
use Rattle.fib_soak.proofs.writer.publish.Given as goal

abbrev pub invariant-loop : goal.invariant-loop
invariant-loop g l =
    (l.ready ≡ l.initial.ready)
    × (l.publisher.key ≡ l.initial.publisher.key)
    × (l.publisher.own.version ≡ l.initial.publisher.own.version)
    × (l.publisher.own.readers ≡ l.initial.publisher.own.readers)
