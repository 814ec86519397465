use Rattle.radix_lockless.specs.Table.{IsRadixOf}
use Rattle.engine_bench.proofs.edits.time_copies.Given as goal

abbrev pub invariant-loop-round : goal.invariant-loop-round
invariant-loop-round g l = IsRadixOf l.view l.table
