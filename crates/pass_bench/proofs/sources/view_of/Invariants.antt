use Rattle.module_trait.specs.Rows.{HaveIndexes}
use Rattle.pass_bench.proofs.sources.view_of.Given as goal

abbrev pub invariant-loop-place : goal.invariant-loop-place
invariant-loop-place l = HaveIndexes l.view
