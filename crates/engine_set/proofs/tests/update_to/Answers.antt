-- The view holds what was set, and with that undone it is what it was.
use Rattle.std.proofs.Common.{◌≡◌, ◌∷◌, [], ℕ, List, Option, Some, arith, lit<, rules, sym, subst}
use Rattle.prefix_width.specs.Prefix.{Block}
use Rattle.module_trait.specs.Edit.{IndexChange, AreOfDistinct, HaveAfter, undone_all}
use Rattle.dxr_chunks.proofs.TestLemmas.{IsSet, have_one, set_once}
use Rattle.engine_set.specs.declared.engine.Engine.{Engine}
use Rattle.engine_set.specs.Engine.{Stands}
use Rattle.engine_set.proofs.tests.update_to.Goals as goal

-- what one edit gives an update that begins with the old rows
record Ready (engine : Engine 32) (edits : List IndexChange) (new : List (Block × ℕ)) : Type 0 where
  distinct : AreOfDistinct edits
  after : HaveAfter edits new
  before : Stands engine (undone_all edits new)

ready : (engine : Engine 32) (edits : List IndexChange) (old new : List (Block × ℕ)) (e : IndexChange) → e ∷ [] ≡ edits → IsSet old new e → Stands engine old → Ready engine edits new
ready engine edits old new e are one stands =
    let here : Ready engine (e ∷ []) new = record {
      distinct = λ i j d h k. absurd (omega arith);
      after = have_one new e one.there;
      before = subst (λ (rows : List (Block × ℕ)). Stands engine rows) (sym one.back) stands;
    } in
    subst (λ (es : List IndexChange). Ready engine es new) are here

pub update_par-requires : goal.update_par-requires
update_par-requires g c =
    let new = c.set.new.self in
    let e = c.in-Some.edit in
    let one = set_once c.args.view.now new c.in_ok-prefix.prefix c.get-before.result (Some 3) e c.len-len.ensures.ascending c.in_ok-set.ensures.ok c.get-before.ensures c.in-Some.ensures.1 in
    let r = ready c.args.engine.now c.as_slice.result.now c.args.view.now new e (sym c.as_slice.ensures) one c.requires in
    (search rules, (lit< tt, (lit< tt, (lit< tt, (r.distinct, (r.after, r.before))))))

pub update-requires : goal.update-requires
update-requires g c =
    let new = c.set.new.self in
    let e = c.in-Some.edit in
    let one = set_once c.args.view.now new c.in_ok-prefix.prefix c.get-before.result (Some 3) e c.len-len.ensures.ascending c.in_ok-set.ensures.ok c.get-before.ensures c.in-Some.ensures.1 in
    let r = ready c.args.engine.now c.as_slice-else-in_pieces.result.now c.args.view.now new e (sym c.as_slice-else-in_pieces.ensures) one c.requires in
    (lit< tt, (lit< tt, (lit< tt, (r.distinct, (r.after, r.before)))))
