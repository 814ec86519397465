use Rattle.std.proofs.Common.{◌≡◌, rules, sym, subst}
use Rattle.module_trait.specs.Edit.{undone_all}
use Rattle.radix_lockless.specs.Form.{linked_of}
use Rattle.radix_lockless.specs.Table.{IsEdited, IsRadixOf, Linked}
use Rattle.radix_lockless.specs.declared.table.Form.{Form}
use Rattle.radix_lockless.proofs.TableLemmas.{edited_table, sound_edited}
use Rattle.radix_lockless.proofs.table.RadixTableModule.change_batch.Goals as goal

pub invariant_of-self-2 : goal.invariant_of-self-2
invariant_of-self-2 g c =
    let edited = c.in_ok-make_edits.ensures.ok in
    sound_edited (linked_of c.self.inside.form) (linked_of c.make_edits.new.form) c.args.edits.now edited c.self.invariant

pub returns-clause-done : goal.returns-clause-done
returns-clause-done g c =
    let edited = c.in_ok-make_edits.ensures.ok in
    let old = linked_of c.self.inside.form in
    let new = linked_of c.make_edits.new.form in
    let view = c.args.view.now in
    let edits = c.args.edits.now in
    λ done. edited_table old new edits view edited
    (subst (λ (t : Linked g.row.W). IsRadixOf (undone_all edits view) t) (sym c.self.view_is) c.requires.before)
    c.len-len.ensures.ascending c.len-len.ensures.blocks c.requires.distinct c.requires.after c.read_edits.ensures
