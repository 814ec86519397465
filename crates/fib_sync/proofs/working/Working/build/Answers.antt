use Rattle.std.proofs.Common.{◌∙◌, sym, subst, lit<}
use Rattle.module_trait.specs.Rows.{AreRows, HaveIndexes}
use Rattle.fib_edits.specs.Named.{number_in}
use Rattle.fib_edits.proofs.CutLemmas.{indexes-indexed}
use Rattle.fib_sync.proofs.working.Working.build.Goals as goal

pub build-requires : goal.build-requires
build-requires g c =
    let is = c.in_ok-view.ensures in
    let rows : AreRows c.in_ok-view.view = record { ascending = c.in_ok-rows.ensures.ascending; indexes = subst HaveIndexes (sym is) (indexes-indexed (number_in c.args.indexes.now.names) c.args.rib.now.rows c.requires.named) } in
    (lit< tt, (lit< tt, (c.requires.suits, subst AreRows (sym (c.deref.ensures.value ∙ c.in_ok-rows.ensures.value)) rows)))
