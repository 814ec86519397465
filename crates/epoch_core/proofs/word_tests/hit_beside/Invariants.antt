use Rattle.std.proofs.Common.{◌≡◌, ◌+◌, length}
use Rattle.epoch_core.proofs.word_tests.hit_beside.Given as goal

abbrev pub invariant-loop-made : goal.invariant-loop-made
invariant-loop-made g l =
    (l.standing.version ≡ l.initial.standing.version)
    × (l.standing.seat.table ≡ l.initial.standing.seat.table)
    × (length l.standing.seat.own.hits ≡ length l.initial.standing.seat.own.hits + l._made)
