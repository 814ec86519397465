use Rattle.std.proofs.Common.{◌≡◌, ap, subst, sym}
use Rattle.radix_lockless.specs.Form.{linked_of}
use Rattle.radix_lockless.specs.Table.{IsSameAs, IsSound, Linked}
use Rattle.radix_lockless.specs.declared.table.Form.{Form}
use Rattle.radix_lockless.proofs.TableLemmas.{stands_alike, table_alike}
use Rattle.radix_lockless.proofs.table.RadixTableModule.copy.Goals as goal

pub invariant_of-result : goal.invariant_of-result
invariant_of-result g c =
    let old = linked_of c.self.inside.form in
    let copy = linked_of c.in_ok-form.form in
    let same = subst (λ (f : Form g.row.W). IsSameAs (linked_of f) copy) c.get.ensures c.in_ok-form.ensures.same in
    let sound = c.self.invariant in
    subst (λ (f : Form g.row.W). IsSound (linked_of f)) (sym (c.in_ok-new.ensures)) (sound.0, stands_alike old copy same sound.0 sound.1)

pub returns-clause-stands : goal.returns-clause-stands
returns-clause-stands g c =
    let copy = linked_of c.in_ok-form.form in
    let same = subst (λ (f : Form g.row.W). IsSameAs (linked_of f) copy) c.get.ensures c.in_ok-form.ensures.same in
    let same' = subst (λ (x : Linked g.row.W). IsSameAs x copy) c.self.view_is same in
    λ rows radix. rw c.in_ok-new.ensures (table_alike c.args.self.now copy same' rows radix)
