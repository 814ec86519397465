use Rattle.std.proofs.Common.{◌≡◌}
use Rattle.fib_pass.proofs.thread_tests.look_up_on.Given as goal

abbrev pub invariant-loop-lookup : goal.invariant-loop-lookup
invariant-loop-lookup g l = l.pass.seat.table ≡ l.fn.pass.seat.table
