use Rattle.std.proofs.Common.{◌≡◌, None, sym, ap, ◌∙◌, subst}
use Rattle.prefix_width.specs.Prefix.{Block}
use Rattle.radix_lockless.specs.declared.trie.Entry.{Entry}
use Rattle.radix_lockless.specs.Spot.{IsChange}
use Rattle.radix_lockless.proofs.PlanLemmas.{absent_done}
use Rattle.radix_lockless.proofs.SpotLemmas.{differ_from_test, not_false, not_true, same_from_test}
use Rattle.radix_lockless.proofs.remove.remove.Goals as goal

pub returns-in-None-clause-change : goal.returns-in-None-clause-change
returns-in-None-clause-change g c =
    absent_done c.args.trie.now c.args.prefix.now c.args.spot.now c.requires.block c.requires.spot (λ entry e. absurd (let none = sym e ∙ c.in-None.is in cc))

pub returns-then-ne-clause-change : goal.returns-then-ne-clause-change
returns-then-ne-clause-change g c =
    absent_done c.args.trie.now c.args.prefix.now c.args.spot.now c.requires.block c.requires.spot (λ entry e same. (
    let one : c.in-Some.entry ≡ entry = (let two = sym c.in-Some.is ∙ e in cc) in
    differ_from_test c.in-Some.entry.node.prefix c.args.prefix.now (not_true _ (sym c.ne.ensures ∙ c.if-ne.true)) (ap (λ (x : Entry g.row.W). x.node.prefix) one ∙ same)))

pub returns-else-ne-clause-change : goal.returns-else-ne-clause-change
returns-else-ne-clause-change g c =
    let same = same_from_test c.in-Some.entry.node.prefix c.args.prefix.now (not_false _ (sym c.ne.ensures ∙ c.if-ne.false)) in
    subst (λ (p : Block). IsChange c.args.trie.now c.remove_entry.new.trie p None) same c.remove_entry.ensures.change
