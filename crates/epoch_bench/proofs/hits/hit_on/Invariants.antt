use Rattle.std.proofs.Common.{◌≡◌, ◌+◌, ◌≤◌, length}
use Rattle.epoch_bench.proofs.hits.hit_on.Given as goal

abbrev pub invariant-loop-round : goal.invariant-loop-round
invariant-loop-round l =
    (l.seat.table ≡ l.fn.seat.table)
    × (l.seat.own.enters ≡ l.fn.seat.own.enters + l._round)
    × (length l.seat.own.hits ≤ length l.fn.seat.own.hits + l._round)
