-- The view's indexes are those before the edits and the edits' own.
use Rattle.std.proofs.Common.{◌≡◌, ◌∙◌, ap, lit<, subst, sym}
use Rattle.std.specs.Prelude.{is_some}
use Rattle.std.specs.Map.{keys_of}
use Rattle.module_trait.proofs.EditLemmas.{indexes_after_all}
use Rattle.module_trait.proofs.StartLemmas.{up-starts}
use Rattle.module_trait.specs.Edit.{IndexChange, undone_all}
use Rattle.module_trait.specs.View.{row_at}
use Rattle.module_trait.specs.Starts.{AreRight, IsUp, starts_of}
use Rattle.range_search.proofs.SeekLemmas.{starts_move}
use Rattle.range_search.proofs.table.RangeTableModule.change_batch.Goals as goal

pub begins_anew-requires : goal.begins_anew-requires
begins_anew-requires g c =
    (lit< tt, (lit< tt, subst IsUp (sym c.requires.before.starts) (up-starts g.row.W (undone_all c.args.edits.now c.args.view.now))))

-- An edit's row begins where no cell does.
pub returns-then-branch-clause-verdict : goal.returns-then-branch-clause-verdict
returns-then-branch-clause-verdict g c =
    let edit = c.edit-item.result in
    let edits = c.args.edits.now in
    let view = c.args.view.now in
    let after : row_at view edit.prefix ≡ edit.after = subst (λ (e : IndexChange). row_at view e.prefix ≡ e.after) (sym c.edit-item.is) (c.requires.after c.loop-edit.edit-index edit c.loop-edit-test.true) in
    starts_move g.row.W (undone_all edits view) view c.args.self.now.cells edit.prefix c.requires.before.starts
    (ap is_some after ∙ c.in_ok-begins_anew.ensures.row c.if-branch.true)
    (c.in_ok-begins_anew.ensures.start c.if-branch.true)

pub returns-clause-done : goal.returns-clause-done
returns-clause-done g c = λ done.
    let w = g.row.W in
    let view = c.args.view.now in
    let same : c.as_slice.result.now ≡ view = c.as_slice.ensures.value ∙ c.in_ok-rows.ensures.value in
    record {
      blocks = c.rows.ensures.blocks;
      indexes = indexes_after_all c.args.edits.now view c.requires.before.indexes c.read_edits.ensures c.requires.after c.rows.ensures.found;
      starts = subst (λ rows. keys_of c.take_over.new.self.cells ≡ starts_of w rows) same (c.take_over.ensures.starts done);
      right = subst (λ rows. AreRight w rows c.take_over.new.self.cells) same (c.take_over.ensures.right done);
    }
