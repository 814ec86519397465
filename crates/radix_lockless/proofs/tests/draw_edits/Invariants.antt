use Rattle.radix_lockless.specs.Table.{IsRadixOf}
use Rattle.radix_lockless.proofs.tests.draw_edits.Given as goal

abbrev pub invariant-loop : goal.invariant-loop
invariant-loop g l = IsRadixOf l.view l.table
