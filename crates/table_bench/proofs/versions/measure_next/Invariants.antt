-- The book has given the versions of the rounds so far, and the count is that of the last round.
use Rattle.std.proofs.Common.{◌≡◌, ◌≤◌}
use Rattle.nhop_index.specs.Book.{Remembers}
use Rattle.table_bench.specs.Versions.{Versions, after_rounds, newest_fresh}
use Rattle.table_bench.proofs.versions.measure_next.Given as goal

abbrev pub invariant-loop-round : goal.invariant-loop-round
invariant-loop-round g l =
    (versions : Versions) → Remembers g.row.K versions l.fn.book
    → Remembers g.row.K (after_rounds g.row.K l.one l.other versions l.round) l.book
    × (1 ≤ l.round → l.count ≡ newest_fresh (after_rounds g.row.K l.one l.other versions l.round))
