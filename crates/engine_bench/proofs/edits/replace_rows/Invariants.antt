use Rattle.radix_lockless.specs.Table.{IsRadixOf}
use Rattle.engine_bench.proofs.edits.replace_rows.Given as goal

abbrev pub invariant-loop-prefix : goal.invariant-loop-prefix
invariant-loop-prefix g l = IsRadixOf l.view l.table
