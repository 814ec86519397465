use Rattle.module_trait.specs.Rows.{HaveIndexes}
use Rattle.engine_bench.proofs.routes.draw_view.Given as goal

abbrev pub invariant-loop : goal.invariant-loop
invariant-loop g l = HaveIndexes l.view
