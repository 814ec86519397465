use Rattle.std.proofs.Common.{◌≡◌, ◌<◌, ℕ, List, length, take, get_or, ap, ◌∙◌, arith, subst}
use Rattle.prefix_width.specs.Prefix.{Block}
use Rattle.module_trait.specs.Nodes.{node_at}
use Rattle.radix_lockless.specs.Trie.{StandsFor}
use Rattle.radix_lockless.proofs.EditLemmas.{set_next}
use Rattle.radix_lockless.proofs.fill.FillingCounting.run.Goals as goal

pub loop-i-preserved : goal.loop-i-preserved
loop-i-preserved g c =
    let new = c.set_row.new.trie in
    let rows = c.args.self.now.rows.now in
    let i = c.loop-i.i in
    let read = c.index-self-i.result in
    let row = get_or c.loop-i.self.rows.now i read in
    let same : c.loop-i.self.rows.now ≡ rows = ap (λ r. r.now) c.loop-i.invariant.same in
    let inside : i < length rows = omega arith in
    let is : row ≡ get_or rows i row = subst (λ (r : Block × ℕ). r ≡ get_or rows i r) c.index-self-i.is (c.index-self-i.is ∙ ap (λ (xs : List (Block × ℕ)). get_or xs i read) same) in
    let spare = c.set_row.ensures.change.spare in
    let room = c.loop-i.invariant.room in
    record {
      stands = subst (λ (xs : List (Block × ℕ)). StandsFor (node_at new.nodes.slots) new.root xs) (set_next rows i row c.requires.0 inside is) (c.set_row.ensures.change.rows (take i rows) c.loop-i.invariant.stands);
      same = c.loop-i.invariant.same;
      room = omega (arith, spare, room);
    }
