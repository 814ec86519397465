use Rattle.std.proofs.Common.{◌≡◌}
use Rattle.epoch_bench.proofs.writer.place_copies.Given as goal

abbrev pub invariant-loop : goal.invariant-loop
invariant-loop g l =
    (l.control.table ≡ l.initial.control.table)
    × (l.control.own.readers ≡ l.initial.control.own.readers)
    × (l.control.own.version ≡ l.initial.control.own.version)
    × (l.copies ≡ l.initial.copies)
