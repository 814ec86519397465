use Rattle.std.proofs.Common.{List, ◌≡◌, rules, sym, subst}
use Rattle.module_trait.specs.Edit.{IndexChange, undone}
use Rattle.radix_lockless.specs.Form.{linked_of}
use Rattle.radix_lockless.specs.Table.{IsEdited, IsRadixOf, Linked}
use Rattle.radix_lockless.specs.declared.table.Form.{Form}
use Rattle.radix_lockless.proofs.TableLemmas.{edited_one, sound_edited}
use Rattle.radix_lockless.proofs.table.RadixTableModule.change.Goals as goal

pub invariant_of-self-2 : goal.invariant_of-self-2
invariant_of-self-2 g c =
    let edited = c.in_ok-make_edits.ensures.ok in
    sound_edited (linked_of c.self.inside.form) (linked_of c.make_edits.new.form) c.as_slice.result.now edited c.self.invariant

pub returns-clause-done : goal.returns-clause-done
returns-clause-done g c =
    let edited = c.in_ok-make_edits.ensures.ok in
    let old = linked_of c.self.inside.form in
    let new = linked_of c.make_edits.new.form in
    let view = c.args.view.now in
    let edit = c.args.edit.now in
    λ done. edited_one old new edit view
    (subst (λ (edits : List IndexChange). IsEdited old new edits) c.as_slice.ensures edited)
    (subst (λ (t : Linked g.row.W). IsRadixOf (undone edit view) t) (sym c.self.view_is) c.requires.before)
    c.len-len.ensures.ascending c.len-len.ensures.blocks c.requires.after c.after-after.ensures.edit
