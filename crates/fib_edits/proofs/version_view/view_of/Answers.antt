use Rattle.std.proofs.Common.{◌∙◌, [], ap, sym, subst}
use Rattle.module_trait.specs.View.{with_row}
use Rattle.fib_edits.specs.Named.{number_in}
use Rattle.fib_edits.proofs.CutLemmas.{Views, view_starts, view_step, view_ends}
use Rattle.fib_edits.proofs.version_view.view_of.Goals as goal

pub loop-prefix-init : goal.loop-prefix-init
loop-prefix-init g c =
    let n = number_in c.args.indexes.now.names in
    let all = c.args.rib.now.rows in
    subst (λ view. Views n all c.into_iter-prefix-iterator.result view) (sym c.new-view.ensures)
    (subst (λ left. Views n all left []) (sym (c.into_iter-prefix-iterator.ensures.into_iter_gives ∙ c.iter-prefix-items.ensures)) (view_starts n all))

pub loop-prefix-preserved : goal.loop-prefix-preserved
loop-prefix-preserved g c =
    view_step (number_in c.args.indexes.now.names) c.args.rib.now.rows c.loop-prefix.prefix-iterator c.next.new.self (c.in-Some.prefix.now, c.in-Some._paths.now) c.loop-prefix.view c.set.new.self c.loop-prefix.invariant c.in-Some.ensures.steps
    (c.in_ok-set.ensures.ok ∙ ap (with_row c.loop-prefix.view c.in-Some.prefix.now) c.index_at.ensures)

pub returns : goal.returns
returns g c = view_ends (number_in c.args.indexes.now.names) c.args.rib.now.rows c.loop-prefix.prefix-iterator c.loop-prefix.view c.loop-prefix.invariant c.in-None.ensures.steps.0 c.len-ascending.ensures.ascending
