-- Paths with their layout: one path, what weights give, what is left, and what the slots of indexes hold.
use Rattle.std.proofs.Common.{◌≡◌, ℕ, ◌/◌, ◌%◌, ◌<◌, ◌≤◌, Bool, true, false, min, List, [], ◌∷◌, Some, refl, sym, ◌∙◌, ap, subst, arith, length, get_or, sum}
use Rattle.std.specs.Prelude.{All, slice_get, slice_index_or}
use Rattle.std.specs.Option.{option_and_then, option_map}
use Prim.Native.Nat.{◌∣◌}
use Rattle.std.proofs.Math.Nat.{div_self, mod-lt}
use Rattle.std.proofs.lemmas.Nat.Gcd.{dvd_refl}
use Rattle.std.proofs.lemmas.List.{length-map}
use Rattle.std.proofs.lemmas.List.Elements.{All-cons, All-get_or, All-head, All-nil}
use Rattle.std.proofs.lemmas.Option.{slice_get-get_or, slice_get-map}
use Rattle.prefix_width.specs.Path.{WeightedHop, IsWeight}
use Rattle.nhgrp_slots.specs.Laws.{LeftAreSpreads, SlotsHoldPicked, SpreadsAreOfPaths}
use Rattle.nhgrp_slots.specs.Layout.{IsLayout, layout_of}
use Rattle.nhgrp_slots.specs.PathList.{PathList, IsPathList}
use Rattle.nhgrp_slots.specs.Slots.{HaveWeights, gcd_of, size_of, weights}
use Rattle.nhgrp_slots.specs.Spread.{Spread, IsSpread, are_several, compiled, hops, left_spread, pick}
use Rattle.nhgrp_slots.proofs.DivisorLemmas.{gcd_of_is, IsGcdOf}
use Rattle.nhgrp_slots.proofs.LayoutLemmas.{kept_is_layout, layout_is_of_paths}
use Rattle.nhgrp_slots.proofs.PathLemmas.{single}
use Rattle.nhgrp_slots.proofs.SlotLemmas.{slots_are_filled, sum_cons}

-- the one slot of one path
one_position : (layout : List ℕ) → length layout ≡ 1 → All (λ i. i < 1) layout → layout ≡ 0 ∷ []
one_position [] e all = absurd (omega arith)
one_position (i ∷ []) e all = let low : i < 1 = All-get_or (λ j. j < 1) (i ∷ []) 0 0 (omega arith) all in let zero : i ≡ 0 = omega arith in ap (λ j. j ∷ []) zero
one_position (i ∷ j ∷ rest) e all = absurd (omega arith)

-- one path has one slot
size_of_one : (p : WeightedHop) → 0 < p.weight → size_of (weights (p ∷ [])) ≡ 1
size_of_one p pos =
    let w : ℕ = p.weight in
    let each : All (λ v. w ∣ v) (w ∷ []) = All-cons (λ v. w ∣ v) w [] (dvd_refl w) (All-nil (λ v. w ∣ v)) in
    let is : IsGcdOf (w ∷ []) w = record { each = each; most = λ d all. All-head (λ v. d ∣ v) w [] all } in
    let gcd : gcd_of (w ∷ []) ≡ w = gcd_of_is (w ∷ []) w (omega arith) (All-cons (λ v. 0 < v) w [] pos (All-nil (λ v. 0 < v))) is in
    let total : sum (w ∷ []) ≡ w = let split = sum_cons w [] in let none : sum [] ≡ 0 = refl in omega arith in
    let one : w / w ≡ 1 = div_self pos in
    ap (λ n. min (n / gcd_of (w ∷ [])) 64) total ∙ ap (λ n. min (w / n) 64) gcd ∙ ap (λ n. min n 64) one

-- the layout of one path
pub layout_of_one : (p : WeightedHop) → IsWeight p.nexthop.kind p.weight → layout_of (p ∷ []) ≡ 0 ∷ []
layout_of_one p is =
    let have : HaveWeights (p ∷ []) = (omega arith, All-cons (λ q. IsWeight q.nexthop.kind q.weight) p [] is (All-nil (λ q. IsWeight q.nexthop.kind q.weight))) in
    let of_path = (layout_is_of_paths (p ∷ []) have).0 in
    let n : length (layout_of (p ∷ [])) ≡ 1 = slots_are_filled (p ∷ []) (0 ∷ []) have refl ∙ size_of_one p is.0 in
    one_position (layout_of (p ∷ [])) n of_path.within

pub spreads_are_of_paths : SpreadsAreOfPaths
spreads_are_of_paths ps list have = record {
  list = list;
  weights = have;
  layout = (layout_is_of_paths ps have).0;
  lone = lone ps have;
}
  where
    lone : (ps : PathList) → HaveWeights ps → length ps ≡ 1 → layout_of ps ≡ 0 ∷ []
    lone [] have e = absurd (omega arith)
    lone (p ∷ []) have e = layout_of_one p (All-head (λ q. IsWeight q.nexthop.kind q.weight) p [] have.1)
    lone (p ∷ q ∷ ps) have e = absurd (omega arith)

-- whether there are several paths, by their number
pub several_is : (ps : PathList) → 2 ≤ length ps → are_several ps ≡ true
several_is [] h = absurd (omega arith)
several_is (p ∷ []) h = absurd (omega arith)
several_is (p ∷ q ∷ ps) h = refl

pub several_not : (ps : PathList) → length ps < 2 → are_several ps ≡ false
several_not [] h = refl
several_not (p ∷ []) h = refl
several_not (p ∷ q ∷ ps) h = absurd (omega arith)

pub left_are_spreads : LeftAreSpreads
left_are_spreads keeps old new is list have = go keeps new list have
  where
    go : (k : Bool) (ps : PathList) → IsPathList ps → HaveWeights ps → IsSpread (left_spread k old ps)
    go false ps list have = spreads_are_of_paths ps list have
    go true [] list have = spreads_are_of_paths [] list have
    go true (p ∷ []) list have = spreads_are_of_paths (p ∷ []) list have
    go true (p ∷ q ∷ ps) list have = record {
      list = list;
      weights = have;
      layout = (kept_is_layout old.paths old.layout (p ∷ q ∷ ps) have is.layout).1;
      lone = λ e. absurd (omega arith);
    }

-- the path in a slot of a layout
pub slot_path : (s : Spread) (slot : ℕ) → IsLayout s.paths s.layout → slot < length s.layout → get_or s.layout slot 0 < length s.paths
slot_path s slot is h = All-get_or (λ i. i < length s.paths) s.layout slot 0 h is.within

-- the nexthop of a flow is that of the path in the flow's slot
pub pick_is : (s : Spread) (flow : ℕ) → IsLayout s.paths s.layout → pick s flow ≡ slice_get (hops s) (get_or s.layout (flow % length s.layout) 0)
pick_is s flow is =
    let low : flow % length s.layout < length s.layout = mod-lt flow (let some = is.some in omega arith) in
    ap (option_and_then (slice_get (hops s))) (slice_get-get_or s.layout (flow % length s.layout) 0 low)

pub slots_hold_picked : SlotsHoldPicked
slots_hold_picked s indexes is same flow =
    let layout = is.layout in
    let low : flow % length s.layout < length s.layout = mod-lt flow (let some = layout.some in omega arith) in
    let i : ℕ = get_or s.layout (flow % length s.layout) 0 in
    let below : i < length s.paths = slot_path s (flow % length s.layout) layout low in
    let n : length (compiled s indexes) ≡ length s.layout = length-map s.layout (λ j. slice_index_or indexes j 0) in
    let at : slice_get s.layout (flow % length s.layout) ≡ Some i = slice_get-get_or s.layout (flow % length s.layout) 0 low in (
      i,
      below,
      sym (pick_is s flow layout),
      slice_get-get_or indexes i 0 (omega arith)
          ∙ sym (ap (slice_get (compiled s indexes)) (ap (λ m. flow % m) n) ∙ slice_get-map (λ j. slice_index_or indexes j 0) s.layout (flow % length s.layout) ∙ ap (option_map (λ j. slice_index_or indexes j 0)) at),
    )

-- one path, in its one slot
pub spread_of_one : (p : WeightedHop) → IsWeight p.nexthop.kind p.weight → IsSpread (record { paths = p ∷ []; layout = 0 ∷ [] })
spread_of_one p is =
    let have : HaveWeights (p ∷ []) = (omega arith, All-cons (λ q. IsWeight q.nexthop.kind q.weight) p [] is (All-nil (λ q. IsWeight q.nexthop.kind q.weight))) in
    subst (λ layout. IsSpread (record { paths = p ∷ []; layout = layout })) (layout_of_one p is) (spreads_are_of_paths (p ∷ []) (single (p ∷ []) p refl) have)

-- such paths, whatever their parts are called
pub same_spread : (paths qs : PathList) (layout ls : List ℕ) → paths ≡ qs → layout ≡ ls → IsSpread (record { paths = qs; layout = ls }) → IsSpread (record { paths = paths; layout = layout })
same_spread paths qs layout ls e f is = subst (λ l. IsSpread (record { paths = paths; layout = l })) (sym f) (subst (λ ps. IsSpread (record { paths = ps; layout = ls })) (sym e) is)
