use Rattle.std.proofs.Common.{◌≡◌, ◌≢◌, ◌∙◌, ◌∷◌, [], ℕ, List, All, arith, ap, sym, subst}
use Rattle.std.proofs.lemmas.List.Elements.{All-cons, All-nil}
use Rattle.std.proofs.lemmas.List.Kept.{AllPairs-cons}
use Rattle.prefix_width.specs.Prefix.{Block}
use Rattle.module_trait.specs.Edit.{IndexChange, AreOfDistinct, HaveAfter, undone, undone_all}
use Rattle.module_trait.specs.View.{with_row}
use Rattle.dxr_chunks.specs.Table.{IsChunksOf}
use Rattle.dxr_chunks.proofs.TestLemmas.{have_two, set_once}
use Rattle.dxr_chunks.proofs.tests.batch_both.Goals as goal

pub change_batch-requires : goal.change_batch-requires
change_batch-requires c =
    let old = c.args.view.now in
    let mid = c.set.new.self in
    let new = c.set-2.new.self in
    let e = c.in-Some.one in
    let d = c.in-Some-new.two in
    let p = c.in_ok-p.p in
    let q = c.in_ok-q.q in
    let e_is = c.in-Some.ensures.1 in
    let d_is = c.in-Some-new.ensures.1 in
    let first = set_once old mid p c.get-before.result c.args.first.1 e c.len-rows.ensures.ascending c.in_ok-set.ensures.ok c.get-before.ensures e_is in
    let second = set_once mid new q c.get-between.result c.args.second.1 d c.len-more.ensures.ascending c.in_ok-set-2.ensures.ok c.get-between.ensures d_is in
    let ep : e.prefix ≡ p = ap (λ (x : IndexChange). x.prefix) e_is in
    let dq : d.prefix ≡ q = ap (λ (x : IndexChange). x.prefix) d_is in
    let other : e.prefix ≢ d.prefix = λ h. (let lens = ap (λ (b : Block). b.len) (sym ep ∙ h ∙ dq) in c.if-short-long.false (c.len-short.ensures.value ∙ lens ∙ sym c.len-long.ensures.value)) in
    let set : new ≡ with_row mid d.prefix d.after = c.in_ok-set-2.ensures.ok ∙ sym (ap (λ (x : IndexChange). with_row mid x.prefix x.after) d_is) in
    let edits = sym c.as_slice.ensures in
    let distinct : AreOfDistinct (d ∷ e ∷ []) =
    AllPairs-cons (λ x y. x.prefix ≢ y.prefix) d (e ∷ []) (All-cons (λ y. d.prefix ≢ y.prefix) e [] (λ h. other (sym h)) (All-nil (λ y. d.prefix ≢ y.prefix))) (λ i j x h k. absurd (omega arith)) in
    let back : undone_all (d ∷ e ∷ []) new ≡ old = ap (undone e) second.back ∙ first.back in
    record {
      distinct = subst AreOfDistinct edits distinct;
      after = subst (λ (es : List IndexChange). HaveAfter es new) edits (have_two old mid new e d other first second set);
      before = subst (λ (es : List IndexChange). IsChunksOf (undone_all es new) c.args.table.now) edits (subst (λ (rows : List (Block × ℕ)). IsChunksOf rows c.args.table.now) (sym back) c.requires);
    }
