use Rattle.std.proofs.Common.{lit<, sym, subst}
use Rattle.radix_lockless.specs.declared.table.Form.{Form}
use Rattle.radix_lockless.specs.Form.{linked_of}
use Rattle.radix_lockless.specs.Table.{IsSameAs, working}
use Rattle.radix_lockless.proofs.TableLemmas.{edited_alike, stands_alike}
use Rattle.radix_lockless.proofs.table.edit_form.Goals as goal

pub apply-requires-in-Frozen : goal.apply-requires-in-Frozen
apply-requires-in-Frozen g c =
    let copy = working c.in_ok-trie-in-Frozen.trie in
    let same = subst (λ (f : Form g.row.W). IsSameAs (linked_of f) copy) (sym c.in-Frozen.is) c.in_ok-trie-in-Frozen.ensures.same in
    (lit< tt, (lit< tt, (c.requires.0, stands_alike (linked_of c.args.form.now) copy same c.requires.0 c.requires.1)))

pub returns-in_ok-apply-in-Frozen-clause-ok : goal.returns-in_ok-apply-in-Frozen-clause-ok
returns-in_ok-apply-in-Frozen-clause-ok g c =
    let copy = working c.in_ok-trie-in-Frozen.trie in
    edited_alike (linked_of c.args.form.now) copy (working c.apply-in-Frozen.new.trie) c.args.edits.now
    (subst (λ (f : Form g.row.W). IsSameAs (linked_of f) copy) (sym c.in-Frozen.is) c.in_ok-trie-in-Frozen.ensures.same)
    c.in_ok-apply-in-Frozen.ensures.ok
