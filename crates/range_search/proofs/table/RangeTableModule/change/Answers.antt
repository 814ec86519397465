-- The view's indexes are those before the edit and the edit's own.
use Rattle.std.proofs.Common.{◌≡◌, ◌∙◌, ap, lit<, subst, sym}
use Rattle.std.specs.Prelude.{is_some}
use Rattle.std.specs.Map.{keys_of}
use Rattle.module_trait.proofs.EditLemmas.{indexes_after}
use Rattle.module_trait.proofs.StartLemmas.{up-starts}
use Rattle.module_trait.specs.Edit.{undone}
use Rattle.module_trait.specs.Starts.{AreRight, IsUp, starts_of}
use Rattle.range_search.proofs.SeekLemmas.{starts_move}
use Rattle.range_search.proofs.table.RangeTableModule.change.Goals as goal

pub begins_anew-requires : goal.begins_anew-requires
begins_anew-requires g c =
    (lit< tt, (lit< tt, subst IsUp (sym c.requires.before.starts) (up-starts g.row.W (undone c.args.edit.now c.args.view.now))))

-- The edit's row begins where no cell does.
pub returns-then-branch-clause-verdict : goal.returns-then-branch-clause-verdict
returns-then-branch-clause-verdict g c =
    let edit = c.args.edit.now in
    let view = c.args.view.now in
    starts_move g.row.W (undone edit view) view c.args.self.now.cells edit.prefix c.requires.before.starts
    (ap is_some c.requires.after ∙ c.in_ok-begins_anew.ensures.row c.if-branch.true)
    (c.in_ok-begins_anew.ensures.start c.if-branch.true)

pub returns-clause-done : goal.returns-clause-done
returns-clause-done g c = λ done.
    let w = g.row.W in
    let view = c.args.view.now in
    let same : c.as_slice.result.now ≡ view = c.as_slice.ensures.value ∙ c.in_ok-rows.ensures.value in
    record {
      blocks = c.rows.ensures.blocks;
      indexes = indexes_after c.args.edit.now view c.requires.before.indexes c.after-after.ensures.edit c.requires.after c.rows.ensures.found;
      starts = subst (λ rows. keys_of c.take_over.new.self.cells ≡ starts_of w rows) same (c.take_over.ensures.starts done);
      right = subst (λ rows. AreRight w rows c.take_over.new.self.cells) same (c.take_over.ensures.right done);
    }
