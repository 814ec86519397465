-- What the rows lead to is live, and each live target has an index of 1 or more.
use Rattle.std.proofs.Common.{◌∙◌, subst, sym, lit<}
use Rattle.module_trait.specs.Rows.{HaveIndexes}
use Rattle.fib_edits.specs.Named.{number_in}
use Rattle.fib_edits.proofs.CutLemmas.{indexes-indexed}
use Rattle.fib_edits.proofs.NameLemmas.{indexes_named}
use Rattle.fib_edits.proofs.tests.next_version.Goals as goal

pub edits-requires : goal.edits-requires
edits-requires g c =
    let named = indexes_named 32 4 2047 c.in_ok-indexes.indexes c.in_ok-targets.targets.items c.run.new.rib.rows c.in_ok-indexes.ensures.indexes (c.in_ok-indexes.ensures.targets ∙ c.deref.ensures.value) c.in_ok-targets.ensures.rows in
    (lit< tt, (lit< tt, (lit< tt, (lit< tt, (lit< tt, (named, c.requires))))))

pub returns : goal.returns
returns g c =
    let named = indexes_named 32 4 2047 c.in_ok-indexes.indexes c.in_ok-targets.targets.items c.run.new.rib.rows c.in_ok-indexes.ensures.indexes (c.in_ok-indexes.ensures.targets ∙ c.deref.ensures.value) c.in_ok-targets.ensures.rows in
    subst HaveIndexes (sym c.in_ok-view.ensures) (indexes-indexed (number_in c.in_ok-indexes.indexes.names) c.run.new.rib.rows named)
