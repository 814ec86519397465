-- The last list has the elements that it has each time.
use Rattle.std.proofs.Common.{◌≡◌}
use Rattle.table_bench.specs.Live.{elements}
use Rattle.table_bench.proofs.lists.measure_list.Given as goal

abbrev pub invariant-loop-round : goal.invariant-loop-round
invariant-loop-round g l = l.count ≡ elements l.listing l.table.rows l.targets
