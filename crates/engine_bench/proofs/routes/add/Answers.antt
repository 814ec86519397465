use Rattle.std.proofs.Common.{◌≤◌, subst, sym}
use Rattle.std.proofs.lemmas.Map.Views.{All-values-insert_entry}
use Rattle.prefix_width.specs.Order.{block_cmp}
use Rattle.module_trait.specs.Rows.{HaveIndexes}
use Rattle.engine_bench.proofs.routes.add.Goals as goal

pub returns-in_ok-set : goal.returns-in_ok-set
returns-in_ok-set g c = subst HaveIndexes (sym (c.in_ok-set.ensures.ok)) (All-values-insert_entry block_cmp c.args.prefix c.args.index (λ index. 1 ≤ index) c.args.view.now c.requires.indexes c.requires.index)
