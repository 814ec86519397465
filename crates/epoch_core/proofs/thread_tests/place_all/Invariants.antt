use Rattle.std.proofs.Common.{◌≡◌}
use Rattle.epoch_core.proofs.thread_tests.place_all.Given as goal

abbrev pub invariant-loop : goal.invariant-loop
invariant-loop g l = l.control.table ≡ l.fn.control.table
