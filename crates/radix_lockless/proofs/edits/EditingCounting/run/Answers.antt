use Rattle.std.proofs.Common.{lit<, ◌≡◌, ◌+◌, ◌-◌, ◌<◌, ℕ, List, Option, length, drop, get_or, sym, ap, ◌∙◌, arith, subst}
use Rattle.prefix_width.specs.Prefix.{Block}
use Rattle.module_trait.specs.Edit.{IndexChange}
use Rattle.radix_lockless.specs.Spot.{IsChange}
use Rattle.radix_lockless.specs.Table.{with_edits}
use Rattle.radix_lockless.proofs.TableLemmas.{IsEditedFrom, edited_all, edited_more}
use Rattle.radix_lockless.proofs.edits.EditingCounting.run.Goals as goal

pub set_row-requires : goal.set_row-requires
set_row-requires g c =
    let rows = c.requires.0.0 in
    let edits = c.args.self.now.edits.now in
    (lit< tt, (lit< tt, ((with_edits (drop c.loop-i.i edits) rows, c.loop-i.invariant.made.rows rows c.requires.0.1), omega arith)))

pub loop-i-preserved : goal.loop-i-preserved
loop-i-preserved g c =
    let old = c.args.self.now.trie in
    let mid = c.loop-i.self.trie in
    let new = c.set_row.new.trie in
    let edits = c.args.self.now.edits.now in
    let i = c.loop-i.i - 1 in
    let e = c.index-self-i.result in
    let same : c.loop-i.self.edits.now ≡ edits = ap (λ r. r.now) c.loop-i.invariant.same in
    let within = c.loop-i.invariant.within in
    let inside : i < length edits = omega arith in
    let is : e ≡ get_or edits i e = c.index-self-i.is ∙ ap (λ (xs : List IndexChange). get_or xs i e) same in
    let back : c.loop-i.i ≡ i + 1 = omega arith in
    let so_far : IsEditedFrom old mid edits (i + 1) = subst (λ (n : ℕ). IsEditedFrom old mid edits n) back c.loop-i.invariant.made in
    let prefix = c.prefix.ensures ∙ sym (ap (λ (x : IndexChange). x.prefix) c.index-self-i.is) in
    let after = c.after.ensures.value ∙ sym (ap (λ (x : IndexChange). x.after) c.index-self-i.is) in
    let change : IsChange mid new e.prefix e.after = subst (λ (x : Option ℕ). IsChange mid new e.prefix x) after (subst (λ (p : Block). IsChange mid new p c.after.result) prefix c.set_row.ensures.change) in
    let spare = change.spare in
    let room = c.loop-i.invariant.room in
    record {
      made = edited_more old mid new edits i e inside is so_far change c.set_row.ensures.little;
      same = c.loop-i.invariant.same;
      room = omega (arith, spare, room);
      within = omega (arith, within);
      most = omega (arith, c.loop-i.invariant.most, c.set_row.ensures.little.room);
    }

pub returns : goal.returns
returns g c =
    let old = c.args.self.now.trie in
    let new = c.loop-i.self.trie in
    let edits = c.args.self.now.edits.now in
    let zero : c.loop-i.i ≡ 0 = omega arith in
    (edited_all old new edits (subst (λ (n : ℕ). IsEditedFrom old new edits n) zero c.loop-i.invariant.made), c.loop-i.invariant.most)
