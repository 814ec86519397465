use Rattle.std.proofs.Common.{◌≤◌, subst, sym}
use Rattle.std.proofs.lemmas.Map.Views.{All-values-insert_entry}
use Rattle.prefix_width.specs.Order.{block_cmp}
use Rattle.module_trait.specs.Rows.{HaveIndexes}
use Rattle.pass_bench.proofs.sources.put.Goals as goal

pub returns : goal.returns
returns c = subst HaveIndexes (sym (c.in_ok-set.ensures.ok)) (All-values-insert_entry block_cmp c.args.prefix c.args.index (λ index. 1 ≤ index) c.args.view.now c.requires.indexes c.requires.index)
