use Rattle.std.proofs.Common.{◌≡◌}
use Rattle.fib_pass.proofs.thread_tests.publish_all.Given as goal

abbrev pub invariant-loop-version : goal.invariant-loop-version
invariant-loop-version g l =
    (l.publisher.key ≡ l.control.plan)
    × (l.publisher.own.version ≡ l.control.image.version)
    × (l.publisher.table ≡ l.fn.publisher.table)
