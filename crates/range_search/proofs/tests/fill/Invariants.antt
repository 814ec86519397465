use Rattle.module_trait.specs.Rows.{HaveIndexes}
use Rattle.range_search.proofs.tests.fill.Given as goal

abbrev pub invariant-loop : goal.invariant-loop
invariant-loop g l = HaveIndexes l.view
