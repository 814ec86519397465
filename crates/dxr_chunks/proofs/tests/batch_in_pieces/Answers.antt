use Rattle.std.proofs.Common.{◌≡◌, ◌∷◌, [], ℕ, List, arith, refl, lit<, rules, sym, subst}
use Rattle.prefix_width.specs.Prefix.{Block}
use Rattle.module_trait.specs.Edit.{IndexChange, AreOfDistinct, HaveAfter, undone_all}
use Rattle.dxr_chunks.specs.Table.{IsChunksOf}
use Rattle.dxr_chunks.proofs.TestLemmas.{have_one, set_once}
use Rattle.dxr_chunks.proofs.tests.batch_in_pieces.Goals as goal

pub change_batch_par-requires : goal.change_batch_par-requires
change_batch_par-requires g c =
    let new = c.set.new.self in
    let e = c.in-Some.edit in
    let one = set_once c.args.view.now new c.in_ok-prefix.prefix c.get-before.result c.args.after e c.len-len.ensures.ascending c.in_ok-set.ensures.ok c.get-before.ensures c.in-Some.ensures.1 in
    let edits = sym c.as_slice.ensures in
    let distinct : AreOfDistinct (e ∷ []) = λ i j d h k. absurd (omega arith) in
    let has : HaveAfter c.as_slice.result.now new = subst (λ (es : List IndexChange). HaveAfter es new) edits (have_one new e one.there) in
    let stood : IsChunksOf (undone_all c.as_slice.result.now new) c.args.table.now =
    subst (λ (es : List IndexChange). IsChunksOf (undone_all es new) c.args.table.now) edits (subst (λ (rows : List (Block × ℕ)). IsChunksOf rows c.args.table.now) (sym one.back) c.requires) in
    (search rules, (lit< tt, (lit< tt, (refl, (subst AreOfDistinct edits distinct, (has, stood))))))
