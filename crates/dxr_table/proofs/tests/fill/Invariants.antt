use Rattle.module_trait.specs.Rows.{HaveIndexes}
use Rattle.dxr_table.proofs.tests.fill.Given as goal

abbrev pub invariant-loop : goal.invariant-loop
invariant-loop l = HaveIndexes l.view
