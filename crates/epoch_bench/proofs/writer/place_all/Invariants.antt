use Rattle.std.proofs.Common.{◌≡◌, ◌+◌}
use Rattle.epoch_bench.proofs.writer.place_all.Given as goal

abbrev pub invariant-loop-placed : goal.invariant-loop-placed
invariant-loop-placed g l =
    (l.control.table ≡ l.initial.control.table)
    × (l.control.own.readers ≡ l.initial.control.own.readers)
    × (l.control.own.version ≡ l.initial.control.own.version + l._placed)
