use Rattle.std.proofs.Common.{◌≡◌, ◌+◌, ◌≤◌}
use Rattle.epoch_bench.specs.Reads.{rightly}
use Rattle.epoch_bench.proofs.reader.read_on.Given as goal

abbrev pub invariant-loop-round : goal.invariant-loop-round
invariant-loop-round l =
    (l.seat.table ≡ l.fn.seat.table)
    × (l.seat.number ≡ l.fn.seat.number)
    × (l.seat.own.enters ≡ l.fn.seat.own.enters + l._round)
    × (l.before ≤ l.seat.own.seen)
    × (l.found ≡ rightly l._round)
