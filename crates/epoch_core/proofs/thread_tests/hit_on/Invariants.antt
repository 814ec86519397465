use Rattle.std.proofs.Common.{◌≡◌, ◌≤◌, length}
use Rattle.epoch_core.proofs.thread_tests.hit_on.Given as goal

abbrev pub invariant-loop-round : goal.invariant-loop-round
invariant-loop-round l =
    (l.seat.table ≡ l.fn.seat.table)
    × (length l.seat.own.hits ≤ l._round)
