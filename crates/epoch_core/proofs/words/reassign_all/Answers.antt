use Rattle.std.proofs.Common.{lit<, ◌≡◌, ◌<◌, ◌+◌, ◌≤◌, ◌∷◌, ◌++◌, [], ℕ, List, false, true, refl, sym, ap, ◌∙◌, arith, Option, length, length-append, append_assoc, subst}
use Rattle.std.specs.Prelude.{slice_index_or}
use Rattle.epoch_core.specs.declared.view.ControlOwn.{ControlOwn}
use Rattle.epoch_core.specs.Fresh.{latest_first}
use Rattle.epoch_core.specs.History.{ReassignSteps}
use Rattle.atomic_table.specs.Seated.{TableId}
use Rattle.epoch_core.specs.Rule.{names_at_key, control_own, IsSized}
use Rattle.epoch_core.specs.Sound.{IsRecent}
use Rattle.epoch_core.specs.Step.{has_index, has_pair, are_distinct}
use Rattle.epoch_core.proofs.FreshLemmas.{next_pair, has_middle, apart_before, index_latest, latest_more, or_false}
use Rattle.epoch_core.proofs.WordLemmas.{pair_index}
use Rattle.epoch_core.proofs.words.reassign_all.Goals as goal

pub reassign-requires : goal.reassign-requires
reassign-requires g c = let inv = c.loop-next.invariant in let hands = inv.5 in let low = c.loop-next-test.true in
    let it = next_pair c.args.fresh.now hands.0 hands.1 c.loop-next.next (0, 0) hands.2 hands.3 low in
    let pair = slice_index_or c.args.fresh.now c.loop-next.next (0, 0) in
    let has : has_pair pair.0 pair.1 c.args.fresh.now ≡ true = ap (has_pair pair.0 pair.1) it.1 ∙ has_middle hands.0 pair it.0 in
    let bounds = c.requires.fresh.within pair.0 pair.1 has in
    let named : has_index pair.0 c.args.fresh.now ≡ true = pair_index pair.0 pair.1 c.args.fresh.now has in
    let apart = apart_before hands.0 pair it.0 (subst (λ (l : List (ℕ × ℕ)). are_distinct l ≡ true) it.1 c.requires.fresh.once) in (
      lit< tt,
      (
        (inv.0 ∙ c.requires.table.0, subst (λ (z : TableId). IsSized g.row.K g.row.LIVE z) (sym inv.0) c.requires.table.1),
        (
          inv.3,
          (
            ap (λ o. o.passed) hands.4 ∙ (c.requires.passed.0 ∙ sym (ap (λ o. o.readers) hands.4)),
            (
              (bounds.0, bounds.1, subst (λ (o : ControlOwn). pair.1 ≤ o.numbers) (sym hands.4) bounds.2),
              (
                (λ u near. subst (λ (q : Option g.row.Q.Denot). has_index pair.0 (names_at_key g.T.Lawful.names q u) ≡ false) (sym inv.2)
                    (c.requires.fresh.free pair.0 u named (subst (λ (o : ControlOwn). IsRecent g.row.K o.version u) hands.4 near))),
                (
                  subst (λ (o : ControlOwn). has_index pair.0 o.done ≡ false) (sym hands.4) (index_latest pair.0 hands.0 [] ∙ (or_false _ ∙ apart)),
                  (ap (λ o. o.tallied) hands.4 ∙ c.requires.untallied, inv.4),
                ),
              ),
            ),
          ),
        ),
      ),
    )

pub loop-next-preserved : goal.loop-next-preserved
loop-next-preserved g c = let inv = c.loop-next.invariant in let hands = inv.5 in let low = c.loop-next-test.true in
    let it = next_pair c.args.fresh.now hands.0 hands.1 c.loop-next.next (0, 0) hands.2 hands.3 low in
    let pair = slice_index_or c.args.fresh.now c.loop-next.next (0, 0) in
    let did = c.reassign.ensures in
    let front : List (ℕ × ℕ) = hands.0 ++ pair ∷ [] in
    let count = hands.3 in
    let own : control_own c.reassign.new.place ≡ record (control_own c.args.place.now) { done = latest_first front []; booked = (control_own c.reassign.new.place).booked } =
    did.own ∙ ((λ i. let o : ControlOwn = record (hands.4 i) { done = pair ∷ (hands.4 i).done; booked = (control_own c.reassign.new.place).booked } in o)
    ∙ (λ i. let o : ControlOwn = record (control_own c.args.place.now) { done = sym (latest_more hands.0 pair []) i; booked = (control_own c.reassign.new.place).booked } in o)) in (
      did.seat.0 ∙ inv.0,
      did.seat.1 ∙ inv.1,
      did.seat.2 ∙ inv.2,
      did.role,
      did.books,
      (front, it.0, it.1 ∙ sym (append_assoc hands.0 (pair ∷ []) it.0), omega (arith, length-append hands.0 (pair ∷ [])), own, subst (λ (l : List (ℕ × ℕ)). ReassignSteps c.args.place.now.me.0.steps l c.reassign.new.place.me.0.steps) (sym (latest_more hands.0 pair [])) (did.step.0, c.loop-next.place.me.0.steps, hands.5, did.step.1)),
    )
