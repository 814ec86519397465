use Rattle.module_trait.specs.Rows.{HaveIndexes}
use Rattle.dxr_table.proofs.tests.fill_chunk.Given as goal

abbrev pub invariant-loop-host : goal.invariant-loop-host
invariant-loop-host l = HaveIndexes l.view
