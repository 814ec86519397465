use Rattle.std.proofs.Common.{◌≤◌, List, ℕ, subst, sym}
use Rattle.std.specs.Prelude.{All}
use Rattle.std.specs.Map.{values_of}
use Rattle.std.proofs.lemmas.Map.Views.{All-values-insert_entry}
use Rattle.prefix_width.specs.Prefix.{Block}
use Rattle.prefix_width.specs.Order.{block_cmp}
use Rattle.engine_set.proofs.tests.put.Goals as goal

pub returns : goal.returns
returns g c =
    subst (λ (rows : List (Block × ℕ)). All (λ i. (1 ≤ i) × (i ≤ 4)) (values_of rows)) (sym c.in_ok-set.ensures.ok)
    (All-values-insert_entry block_cmp c.in_ok-prefix.prefix c.args.index (λ i. (1 ≤ i) × (i ≤ 4)) c.args.view.now c.requires.indexes (c.requires.least, c.requires.most))
