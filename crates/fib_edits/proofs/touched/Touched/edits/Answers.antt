-- Where the sides are no edit the prefix has none.
use Rattle.std.proofs.Common.{◌∙◌, ◌++◌, ap, sym, subst}
use Rattle.module_trait.specs.Edit.{IsEdit}
use Rattle.module_trait.specs.View.{row_at}
use Rattle.fib_edits.specs.Named.{number_in}
use Rattle.fib_edits.proofs.CutLemmas.{edits_none}
use Rattle.fib_edits.proofs.touched.Touched.edits.Goals as goal

pub loop-prefix-preserved : goal.loop-prefix-preserved
loop-prefix-preserved g c =
    let none = subst (λ x. IsEdit x c.index_at-after.result → ⊥) c.get.ensures c.in_default.ensures in
    ap (λ es. c.loop-prefix.edits.items ++ es)
    (sym (edits_none (number_in c.args.indexes.now.names) c.args.rib.now.rows c.args.view.now c.loop-prefix.prefix-iterator c.next.new.self c.in-Some.prefix.now c.in-Some.ensures.steps c.requires.named c.requires.indexes (subst (λ y. IsEdit (row_at c.args.view.now c.in-Some.prefix.now) y → ⊥) c.index_at-after.ensures none)))
    ∙ c.loop-prefix.invariant
