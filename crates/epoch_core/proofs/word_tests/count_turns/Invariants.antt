use Rattle.std.proofs.Common.{◌≡◌, ◌*◌, ◌≤◌, length}
use Rattle.epoch_core.proofs.word_tests.count_turns.Given as goal

abbrev pub invariant-loop-hits : goal.invariant-loop-hits
invariant-loop-hits g l =
    (l.seat.table ≡ l.control.table)
    × (l.control.own.version ≡ l.hits-counter)
    × (length l.seat.own.hits ≤ 9 * l.hits-counter)
