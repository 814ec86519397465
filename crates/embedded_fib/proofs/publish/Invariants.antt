use Rattle.std.proofs.Common.{◌≡◌}
use Rattle.embedded_fib.proofs.publish.Given as goal

abbrev pub invariant-loop-version : goal.invariant-loop-version
invariant-loop-version g l =
    (l.publisher.key ≡ l.control.plan)
    × (l.publisher.own.version ≡ l.control.image.version)
    × (l.publisher.table ≡ l.fn.writer.1.table)

abbrev pub invariant-loop : goal.invariant-loop
invariant-loop g l =
    (l.ready ≡ l.initial.ready)
    × (l.publisher.key ≡ l.initial.publisher.key)
    × (l.publisher.table ≡ l.initial.publisher.table)
    × (l.publisher.own.version ≡ l.initial.publisher.own.version)
    × (l.publisher.own.readers ≡ l.initial.publisher.own.readers)
