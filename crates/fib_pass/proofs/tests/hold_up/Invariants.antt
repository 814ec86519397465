use Rattle.std.proofs.Common.{◌≡◌}
use Rattle.fib_pass.proofs.tests.hold_up.Given as goal

abbrev pub invariant-loop-version : goal.invariant-loop-version
invariant-loop-version g l =
    (l.publisher.key ≡ l.control.plan) × (l.publisher.own.version ≡ l.control.image.version)

abbrev pub invariant-loop-try : goal.invariant-loop-try
invariant-loop-try g l =
    (l.ready ≡ l.initial.ready)
    × (l.publisher.key ≡ l.initial.publisher.key)
    × (l.publisher.own.version ≡ l.initial.publisher.own.version)
    × (l.publisher.own.readers ≡ l.initial.publisher.own.readers)
