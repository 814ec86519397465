-- The view holds what was set, and with that undone it is what it was.
use Rattle.std.proofs.Common.{◌≡◌, ◌∙◌, ap, sym, subst}
use Rattle.module_trait.specs.Edit.{undone}
use Rattle.module_trait.specs.View.{row_at, with_row}
use Rattle.module_trait.proofs.UndoLemmas.{row_at-set, set_back}
use Rattle.dxr_chunks.specs.Table.{IsChunksOf}
use Rattle.dxr_chunks.proofs.tests.change_to.Goals as goal

pub change-requires : goal.change-requires
change-requires c =
    let edit = c.in-Some.edit in
    let rows = c.args.view.now in
    let p = c.in_ok-prefix.prefix in
    let is = c.in-Some.ensures.1 in
    let new : c.set.new.self ≡ with_row rows p c.args.after = c.in_ok-set.ensures.ok in
    let up = c.len-len.ensures.ascending in
    let there : row_at c.set.new.self edit.prefix ≡ edit.after =
    ap (λ e. row_at c.set.new.self e.prefix) is ∙ ap (λ xs. row_at xs p) new ∙ row_at-set rows p c.args.after up ∙ sym (ap (λ e. e.after) is) in
    let back : rows ≡ undone edit c.set.new.self =
    sym (ap (λ e. undone e c.set.new.self) is ∙ ap (λ xs. with_row xs p c.get-before.result) new ∙ ap (with_row (with_row rows p c.args.after) p) c.get-before.ensures ∙ set_back rows p c.args.after up) in
    record { after = there; before = subst (λ rows. IsChunksOf rows c.args.table.now) back c.requires }
