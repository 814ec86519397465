-- Layouts: the path that is least full, the slots that are kept, and what a layout holds.
use Rattle.std.proofs.Common.{◌≡◌, ℕ, suc, zero, ◌+◌, ◌-◌, ◌*◌, ◌/◌, ◌<◌, ◌≤◌, ◌==◌, Bool, true, false, cond, List, [], ◌∷◌, ◌++◌, Some, refl, sym, ◌∙◌, ap, subst, arith, inl, inr, length, get_or, set, drop, replicate, zero-add}
use Rattle.std.specs.Prelude.{All, IfSome, Option, None, slice_get}
use Rattle.std.specs.List.{list_all, list_any, position, position_or_len, range_with_len}
use Rattle.std.specs.Option.{option_and_then, option_map, unwrap_or}
use Rattle.std.specs.Ordering.{is_eq}
use Rattle.std.proofs.Math.Nat.{lt_of_mul-lt-mul_right, mul-le-mul_right, mul-lt-mul_of_pos_right}
use Rattle.std.proofs.lemmas.Bool.{cases_lt, eq-eqb, le-leb, lt-leb, lt-ltb, true≢false}
use Rattle.std.proofs.lemmas.Bool.Decides.{eqb_tells}
use Rattle.std.proofs.lemmas.List.{append-nil, append_assoc, drop_all, drop_more, get_or-map, get_or-set_other, get_or-set_same, length-map}
use Rattle.std.proofs.lemmas.List.Elements.{All-append, All-cons, All-from_get_or, All-get_or, All-head, All-nil, All-replicate, All-tail}
use Rattle.std.proofs.lemmas.List.Folds.{list_all_at, list_any_none}
use Rattle.std.proofs.lemmas.List.FromFn.{get_or-range_with_len, length-range_with_len}
use Rattle.std.proofs.lemmas.List.Sums.{count_by-le-length, fails_before_first, list_all-from_AllPass, passes_at_first, position_or_len_is, sum_by-cons}
use Rattle.std.proofs.lemmas.Option.{none-some, option_and_then_some, slice_get-get_or, slice_get-map}
use Rattle.counted_map.proofs.CountMapLemmas.{eq_from_is_eq}
use Rattle.prefix_width.specs.Nexthop.{Hop}
use Rattle.prefix_width.specs.Order.{hop_cmp}
use Rattle.prefix_width.specs.Path.{WeightedHop}
use Rattle.prefix_width.proofs.OrderLemmas.{hop_exact}
use Rattle.nhgrp_slots.specs.Laws.{KeepsWhatStays, KeptIsLayout, LayoutIsOfPaths}
use Rattle.nhgrp_slots.specs.Layout.{filled, held, kept, kept_layout, layout_of, least_full, new_position, no_fuller, position_of, positions, taken_of, weight_at}
use Rattle.nhgrp_slots.specs.PathList.{PathList, hops}
use Rattle.nhgrp_slots.specs.Slots.{HaveWeights, fill, shares, shares_of, size_of, weights}
use Rattle.nhgrp_slots.proofs.SlotLemmas.{positive, shares_are_all, slots_are_filled, shares_hold_picked}

-- the best of the first n places is the first that has the fewest slots for its weight
pub record IsFirstLeast (slots weight : ℕ → ℕ) (n best : ℕ) : Type 0 where
  pub within : best < n
  pub least : (j : ℕ) → j < n → slots best * weight j ≤ slots j * weight best
  pub first : (j : ℕ) → j < best → slots best * weight j < slots j * weight best

-- what is less full than one is less full than all that are no less full than that one
less_full : (a b c v w x : ℕ) → a * w < b * v → b * x ≤ c * w → 0 < x → a * x < c * v
less_full a b c v w x h k pos =
    let one : a * w * x < b * v * x = mul-lt-mul_of_pos_right h pos in
    let two : b * x * v ≤ c * w * v = mul-le-mul_right v k in
    let three : a * x * w < c * v * w = omega arith in
    lt_of_mul-lt-mul_right w three

pub first_least_one : (slots weight : ℕ → ℕ) → IsFirstLeast slots weight 1 0
first_least_one slots weight = record {
  within = omega arith;
  least = λ j k. let e : j ≡ 0 = omega arith in subst (λ m. slots 0 * weight m ≤ slots m * weight 0) (sym e) (omega arith);
  first = λ j k. absurd (omega arith);
}

pub first_least_next : (slots weight : ℕ → ℕ) (n best : ℕ) → ((j : ℕ) → j < n → 0 < weight j) → IsFirstLeast slots weight n best → slots n * weight best < slots best * weight n → IsFirstLeast slots weight (n + 1) n
first_least_next slots weight n best pos is h =
    let all : (j : ℕ) → j < n → slots n * weight j < slots j * weight n = λ j k. less_full (slots n) (slots best) (slots j) (weight n) (weight best) (weight j) h (is.least j k) (pos j k) in
    record { within = omega arith; least = λ j k. with_last j k (all j); first = all }
  where
    with_last : (j : ℕ) → j < n + 1 → (j < n → slots n * weight j < slots j * weight n) → slots n * weight j ≤ slots j * weight n
    with_last j k below = elim (cases_lt j n) [
      | inl l ↦ let b = below l in omega arith
      | inr r ↦ let e : j ≡ n = omega arith in subst (λ m. slots n * weight m ≤ slots m * weight n) (sym e) (omega arith)
    ]

pub first_least_same : (slots weight : ℕ → ℕ) (n best : ℕ) → IsFirstLeast slots weight n best → slots best * weight n ≤ slots n * weight best → IsFirstLeast slots weight (n + 1) best
first_least_same slots weight n best is h = record { within = let w = is.within in omega arith; least = λ j k. with_last j k; first = is.first }
  where
    with_last : (j : ℕ) → j < n + 1 → slots best * weight j ≤ slots j * weight best
    with_last j k = elim (cases_lt j n) [
      | inl l ↦ is.least j l
      | inr r ↦ let e : j ≡ n = omega arith in subst (λ m. slots best * weight m ≤ slots m * weight best) (sym e) h
    ]

-- there is one among any places
some_first_least : (slots weight : ℕ → ℕ) (n : ℕ) → ((j : ℕ) → j < n + 1 → 0 < weight j) → (best : ℕ) × IsFirstLeast slots weight (n + 1) best
some_first_least slots weight zero pos = (0, first_least_one slots weight)
some_first_least slots weight (suc n) pos =
    let before = some_first_least slots weight n (λ j k. pos j (omega arith)) in
    let e : n + 1 + 1 ≡ suc n + 1 = omega arith in
    elim (cases_lt (slots (n + 1) * weight before.0) (slots before.0 * weight (n + 1))) [
      | inl h ↦ (n + 1, subst (λ m. IsFirstLeast slots weight m (n + 1)) e (first_least_next slots weight (n + 1) before.0 (λ j k. pos j (omega arith)) before.1 h))
      | inr h ↦ (before.0, subst (λ m. IsFirstLeast slots weight m before.0) e (first_least_same slots weight (n + 1) before.0 before.1 h))
    ]

position_at : (ps : PathList) (i : ℕ) → i < length ps → get_or (positions ps) i 0 ≡ i
position_at ps i h = get_or-range_with_len 0 (length ps) i 0 h ∙ zero-add i

length-positions : (ps : PathList) → length (positions ps) ≡ length ps
length-positions ps = length-range_with_len 0 (length ps)

-- the first that has the fewest slots for its weight is the path that is least full
pub least_full_is : (ps : PathList) (slots : ℕ → ℕ) (best : ℕ) → IsFirstLeast slots (weight_at ps) (length ps) best → least_full ps slots ≡ best
least_full_is ps slots best is =
    let l = length-positions ps in
    let w = is.within in
    position_or_len_is (λ i. list_all (no_fuller ps slots i) (positions ps)) (positions ps) best 0 (omega arith) (λ k h. fuller k h) (λ h. least)
  where
    fuller : (k : ℕ) → k < best → list_all (no_fuller ps slots (get_or (positions ps) k 0)) (positions ps) ≡ false
    fuller k h =
        let l = length-positions ps in
        let w = is.within in
        let no : no_fuller ps slots k best ≡ false = lt-leb _ _ (is.first k h) in
        let at = position_at ps k (omega arith) in
        subst (λ i. list_all (no_fuller ps slots i) (positions ps) ≡ false) (sym at)
        (list_all_at (no_fuller ps slots k) (positions ps) best 0 (omega arith) (subst (λ m. no_fuller ps slots k m ≡ false) (sym (position_at ps best w)) no))

    least : list_all (no_fuller ps slots (get_or (positions ps) best 0)) (positions ps) ≡ true
    least =
        let l = length-positions ps in
        subst (λ i. list_all (no_fuller ps slots i) (positions ps) ≡ true) (sym (position_at ps best is.within))
        (list_all-from_AllPass (no_fuller ps slots best) (positions ps) (All-from_get_or (λ j. no_fuller ps slots best j ≡ true) (positions ps) 0 (λ j h.
        let k : j < length ps = omega arith in
        subst (λ m. no_fuller ps slots best m ≡ true) (sym (position_at ps j k)) (le-leb _ _ (is.least j k)))))

pub weight_at_pos : (ps : PathList) → HaveWeights ps → (i : ℕ) → i < length ps → 0 < weight_at ps i
weight_at_pos ps have i h =
    let l : length (weights ps) ≡ length ps = length-map ps (λ p. p.weight) in
    All-get_or (λ w. 0 < w) (weights ps) i 0 (omega arith) (positive ps have)

pub weight_at_is : (ps : PathList) (i : ℕ) (p : WeightedHop) → i < length ps → p ≡ get_or ps i p → weight_at ps i ≡ p.weight
weight_at_is ps i p h e = get_or-map (λ q. q.weight) ps i p 0 h ∙ ap (λ (q : WeightedHop). q.weight) (sym e)

pub least_full_first : (ps : PathList) (slots : ℕ → ℕ) → HaveWeights ps → IsFirstLeast slots (weight_at ps) (length ps) (least_full ps slots)
least_full_first ps slots have =
    let some : 1 ≤ length ps = have.0 in
    let found = some_first_least slots (weight_at ps) (length ps - 1) (λ j k. weight_at_pos ps have j (omega arith)) in
    let e : length ps - 1 + 1 ≡ length ps = omega arith in
    let is : IsFirstLeast slots (weight_at ps) (length ps) found.0 = subst (λ m. IsFirstLeast slots (weight_at ps) m found.0) e found.1 in
    subst (λ b. IsFirstLeast slots (weight_at ps) (length ps) b) (sym (least_full_is ps slots found.0 is)) is

-- which path is least full rests on the numbers at its places alone
pub least_full_same : (ps : PathList) (slots more : ℕ → ℕ) → HaveWeights ps → ((i : ℕ) → i < length ps → slots i ≡ more i) → least_full ps slots ≡ least_full ps more
least_full_same ps slots more have same =
    let best = least_full ps slots in
    let is = least_full_first ps slots have in
    let w = is.within in
    let at = same best w in
    let moved : IsFirstLeast more (weight_at ps) (length ps) best = record {
      within = w;
      least = λ j k. subst (λ n. n * weight_at ps j ≤ more j * weight_at ps best) at (subst (λ n. slots best * weight_at ps j ≤ n * weight_at ps best) (same j k) (is.least j k));
      first = λ j k. subst (λ n. n * weight_at ps j < more j * weight_at ps best) at (subst (λ n. slots best * weight_at ps j < n * weight_at ps best) (same j (omega arith)) (is.first j k));
    } in
    sym (least_full_is ps more best moved)

held_cons : (b : ℕ) (taken : List ℕ) (i : ℕ) → held (b ∷ taken) i ≡ held taken i + cond (b == i) 1 0
held_cons b taken i =
    let split = sum_by-cons (λ j. cond (j == i) 1 0) b taken in
    omega arith

count_more : (counts : List ℕ) (b : ℕ) → b < length counts → (i : ℕ) → get_or (set counts b (get_or counts b 0 + 1)) i 0 ≡ get_or counts i 0 + cond (b == i) 1 0
count_more counts b h i = elim (eqb_tells b i) [
  | inl same ↦ subst (λ m. get_or (set counts b (get_or counts b 0 + 1)) m 0 ≡ get_or counts m 0 + cond (b == m) 1 0) same.1 (get_or-set_same counts b (get_or counts b 0 + 1) 0 h ∙ ap (λ t. get_or counts b 0 + cond t 1 0) (sym (eq-eqb b b refl)))
  | inr other ↦
      let same = get_or-set_other counts b i (get_or counts b 0 + 1) 0 (λ e. other.1 (sym e)) in
      let none : ◌≡◌ {A = ℕ} (cond (b == i) 1 0) 0 = ap (λ (t : Bool). cond {A = ℕ} t 1 0) other.0 in
      omega arith
]

-- one slot more of a position
pub held_more : (counts taken : List ℕ) (b n : ℕ) → b < length counts → ((i : ℕ) → i < n → get_or counts i 0 ≡ held taken i) → (i : ℕ) → i < n → get_or (set counts b (get_or counts b 0 + 1)) i 0 ≡ held (b ∷ taken) i
held_more counts taken b n h same i k = count_more counts b h i ∙ ap (λ m. m + cond (b == i) 1 0) (same i k) ∙ sym (held_cons b taken i)

-- a slot from the layout, and those behind it
pub kept_slot : (old new : PathList) (layout : List ℕ) (i : ℕ) (o : Option ℕ) → i < length layout → o ≡ new_position old new (get_or layout i 0) → kept old (drop i layout) new ≡ o ∷ kept old (drop (i + 1) layout) new
kept_slot old new layout i o h is =
    ap (λ xs. kept old xs new) (drop_more layout i 0 h) ∙ ap (λ q. q ∷ kept old (drop (i + 1) layout) new) (sym is)

-- a slot that stays is counted, and a free one is not
pub count_stays : (old new : PathList) (layout counts : List ℕ) (at b i all : ℕ) → at < length layout → b < length counts → Some b ≡ new_position old new (get_or layout at 0) → get_or counts i 0 + held (taken_of (kept old (drop at layout) new)) i ≡ all → get_or (set counts b (get_or counts b 0 + 1)) i 0 + held (taken_of (kept old (drop (at + 1) layout) new)) i ≡ all
count_stays old new layout counts at b i all h k is before =
    let from : held (taken_of (kept old (drop at layout) new)) i ≡ held (b ∷ taken_of (kept old (drop (at + 1) layout) new)) i = ap (λ slots. held (taken_of slots) i) (kept_slot old new layout at (Some b) h is) in
    let one = held_cons b (taken_of (kept old (drop (at + 1) layout) new)) i in
    let more = count_more counts b k i in
    omega arith

pub count_free : (old new : PathList) (layout counts : List ℕ) (at i all : ℕ) → at < length layout → None ≡ new_position old new (get_or layout at 0) → get_or counts i 0 + held (taken_of (kept old (drop at layout) new)) i ≡ all → get_or counts i 0 + held (taken_of (kept old (drop (at + 1) layout) new)) i ≡ all
count_free old new layout counts at i all h is before =
    ap (λ slots. get_or counts i 0 + held (taken_of slots) i) (sym (kept_slot old new layout at None h is)) ∙ before

length-filled : (ps : PathList) (taken : List ℕ) (slots : List (Option ℕ)) → length (filled ps taken slots) ≡ length slots
length-filled ps taken [] = refl
length-filled ps taken (Some i ∷ slots) = ap suc (length-filled ps taken slots)
length-filled ps taken (None ∷ slots) = ap suc (length-filled ps (least_full ps (held taken) ∷ taken) slots)

-- the slots that are taken stay as they are
filled_at : (ps : PathList) (taken : List ℕ) (slots : List (Option ℕ)) (slot i : ℕ) → slice_get slots slot ≡ Some (Some i) → slice_get (filled ps taken slots) slot ≡ Some i
filled_at ps taken [] slot i e = absurd (none-some (Some i) e)
filled_at ps taken (Some j ∷ slots) zero i e = ap (λ o. unwrap_or o None) e
filled_at ps taken (None ∷ slots) zero i e = absurd (none-some i (ap (λ o. unwrap_or o None) e))
filled_at ps taken (Some j ∷ slots) (suc slot) i e = filled_at ps taken slots slot i e
filled_at ps taken (None ∷ slots) (suc slot) i e = filled_at ps (least_full ps (held taken) ∷ taken) slots slot i e

-- where one of the paths has the nexthop, its position is known
position_from_any : {X : Type 0} (test : X → Bool) (xs : List X) → list_any test xs ≡ true → (i : ℕ) × (x : X) × (position test xs ≡ Some i) × (slice_get xs i ≡ Some x) × (test x ≡ true)
position_from_any test [] e = absurd (true≢false (sym e))
position_from_any {X} test (x ∷ xs) e = elim (cases_lt (position_or_len test (x ∷ xs)) (length (x ∷ xs))) [
  | inl h ↦ (
    position_or_len test (x ∷ xs),
    get_or (x ∷ xs) (position_or_len test (x ∷ xs)) x,
    ap (λ b. cond b (Some (position_or_len test (x ∷ xs))) None) (lt-ltb _ _ h),
    slice_get-get_or (x ∷ xs) (position_or_len test (x ∷ xs)) x h,
    passes_at_first test (x ∷ xs) x h,
  )
  | inr h ↦ let none = list_any_none test (x ∷ xs) (All-from_get_or (λ y. test y ≡ false) (x ∷ xs) x (λ i k. fails_before_first test (x ∷ xs) i x (omega arith))) in absurd (true≢false (sym e ∙ none))
]

pub keeps_what_stays : KeepsWhatStays
keeps_what_stays old layout new slot h holds stays = option_and_then_some (slice_get (hops old)) (slice_get layout slot) h holds (λ i at is.
    let found = position_from_any (λ p. is_eq (hop_cmp h p.nexthop)) new stays in
    let j = found.0 in
    let same : h ≡ found.1.nexthop = hop_exact h found.1.nexthop (eq_from_is_eq (hop_cmp h found.1.nexthop) found.4) in
    let moved : new_position old new i ≡ Some j = ap (option_and_then (position_of new)) is ∙ found.2 in
    let there : slice_get (kept old layout new) slot ≡ Some (Some j) = slice_get-map (new_position old new) layout slot ∙ ap (option_map (new_position old new)) at ∙ ap (λ (o : Option ℕ). Some o) moved in
    let held : slice_get (hops new) j ≡ Some h = slice_get-map (λ p. p.nexthop) new j ∙ ap (option_map (λ (p : WeightedHop). p.nexthop)) found.3 ∙ ap (λ (x : Hop). Some x) (sym same) in
    ap (option_and_then (slice_get (hops new))) (filled_at new (taken_of (kept old layout new)) (kept old layout new) slot j there) ∙ held)

-- the places that filled slots hold
All-filled : (ps : PathList) (taken : List ℕ) (slots : List (Option ℕ)) → HaveWeights ps → All (λ o. IfSome o (λ i. i < length ps)) slots → All (λ i. i < length ps) (filled ps taken slots)
All-filled ps taken [] have all = All-nil (λ i. i < length ps)
All-filled ps taken (Some i ∷ slots) have all =
    All-cons (λ j. j < length ps) i (filled ps taken slots) (All-head (λ o. IfSome o (λ j. j < length ps)) (Some i) slots all) (All-filled ps taken slots have (All-tail (λ o. IfSome o (λ j. j < length ps)) (Some i) slots all))
All-filled ps taken (None ∷ slots) have all =
    let best = least_full ps (held taken) in
    All-cons (λ j. j < length ps) best (filled ps (best ∷ taken) slots) (least_full_first ps (held taken) have).within (All-filled ps (best ∷ taken) slots have (All-tail (λ o. IfSome o (λ j. j < length ps)) None slots all))

pub new_position_within : (old new : PathList) (i : ℕ) → IfSome (new_position old new i) (λ j. j < length new)
new_position_within old new i = elim (slice_get (hops old) i) as (λ o. IfSome (option_and_then (position_of new) o) (λ j. j < length new)) [
  | None ↦ tt
  | Some h ↦ position_within (λ p. is_eq (hop_cmp h p.nexthop)) new
]
  where
    position_within : {X : Type 0} (test : X → Bool) (xs : List X) → IfSome (position test xs) (λ j. j < length xs)
    position_within test xs = elim (cases_lt (position_or_len test xs) (length xs)) [
      | inl h ↦ subst (λ b. IfSome (cond b (Some (position_or_len test xs)) None) (λ j. j < length xs)) (sym (lt-ltb _ _ h)) h
      | inr h ↦ subst (λ b. IfSome (cond b (Some (position_or_len test xs)) None) (λ j. j < length xs)) (sym (lt-leb _ _ (omega arith))) tt
    ]

All-kept : (old new : PathList) (layout : List ℕ) → All (λ o. IfSome o (λ i. i < length new)) (kept old layout new)
All-kept old new [] = All-nil (λ o. IfSome o (λ i. i < length new))
All-kept old new (i ∷ layout) = All-cons (λ o. IfSome o (λ j. j < length new)) (new_position old new i) (kept old layout new) (new_position_within old new i) (All-kept old new layout)

pub kept_is_layout : KeptIsLayout
kept_is_layout old layout new have is =
    let l : length (kept_layout old layout new) ≡ length layout = length-filled new (taken_of (kept old layout new)) (kept old layout new) ∙ length-map layout (new_position old new) in
    let some = is.some in
    let room = is.room in (
      l,
      record {
        some = omega arith;
        room = omega arith;
        within = All-filled new (taken_of (kept old layout new)) (kept old layout new) have (All-kept old new layout);
      },
    )

All-fill : {X : Type 0} (P : X → Type 0) (ns : List ℕ) (xs : List X) → All P xs → All P (fill ns xs)
All-fill P [] xs all = All-nil P
All-fill P (n ∷ ns) [] all = All-nil P
All-fill P (n ∷ ns) (x ∷ xs) all = All-append P (replicate n x) (fill ns xs) (All-replicate P n x (All-head P x xs all)) (All-fill P ns xs (All-tail P x xs all))

pub layout_is_of_paths : LayoutIsOfPaths
layout_is_of_paths ps have =
    let all = shares_are_all ps have in
    let l = length-positions ps in
    let n : length (layout_of ps) ≡ size_of (weights ps) = slots_are_filled ps (positions ps) have l in
    let within : All (λ i. i < length ps) (positions ps) = All-from_get_or (λ i. i < length ps) (positions ps) 0 (λ i h. let k : i < length ps = omega arith in subst (λ m. m < length ps) (sym (position_at ps i k)) k) in (
      record {
        some = omega (arith, all.0, n);
        room = omega (arith, all.1, n);
        within = All-fill (λ i. i < length ps) (shares_of (weights ps)) (positions ps) within;
      },
      λ flow.
          let picked = shares_hold_picked ps (positions ps) have l flow in
          let i = picked.0 in
          let below : i < length ps = picked.1 in
          let at : slice_get (positions ps) i ≡ Some i = slice_get-get_or (positions ps) i 0 (omega arith) ∙ ap (λ (m : ℕ). Some m) (position_at ps i below) in
          ap (option_and_then (slice_get (hops ps))) (sym picked.3 ∙ at) ∙ picked.2,
    )

-- the slots from a path on: its share, and those of the paths behind it
pub layout_from : (slots total : ℕ) (ps : PathList) (i w : ℕ) (p : WeightedHop) → i < length ps → p ≡ get_or ps i p → w ≡ p.weight → fill (shares slots total (weights (drop i ps))) (range_with_len i (length ps - i)) ≡ replicate (w * slots / total) i ++ fill (shares (slots - w * slots / total) (total - w) (weights (drop (i + 1) ps))) (range_with_len (i + 1) (length ps - (i + 1)))
layout_from slots total ps i w p h e is =
    let n : length ps - i ≡ suc (length ps - (i + 1)) = omega arith in
    ap (λ m. fill (shares slots total (weights (drop i ps))) (range_with_len i m)) n
    ∙ ap (λ qs. fill (shares slots total (weights qs)) (range_with_len i (suc (length ps - (i + 1))))) (drop_more ps i p h ∙ ap (λ (q : WeightedHop). q ∷ drop (i + 1) ps) (sym e))
    ∙ ap (λ v. replicate (v * slots / total) i ++ fill (shares (slots - v * slots / total) (total - v) (weights (drop (i + 1) ps))) (range_with_len (i + 1) (length ps - (i + 1)))) (sym is)

-- what is taken is no more than all slots, and so is what holds a position
pub held_le : (taken : List ℕ) (i : ℕ) → held taken i ≤ length taken
held_le taken i = count_by-le-length (λ j. j == i) taken

length-taken_of : (slots : List (Option ℕ)) → length (taken_of slots) ≤ length slots
length-taken_of [] = omega arith
length-taken_of (Some i ∷ slots) =
    let ih = length-taken_of slots in
    let more : suc (length (taken_of slots)) ≤ suc (length slots) = omega arith in
    more
length-taken_of (None ∷ slots) =
    let ih = length-taken_of slots in
    let more : length (taken_of slots) ≤ suc (length slots) = omega arith in
    more

pub length-kept_taken : (old : PathList) (layout : List ℕ) (new : PathList) → length (taken_of (kept old layout new)) ≤ length layout
length-kept_taken old layout new =
    let l = length-map layout (new_position old new) in
    let n = length-taken_of (kept old layout new) in
    omega arith

pub kept_count_le : (old : PathList) (layout : List ℕ) (new : PathList) (i n rest : ℕ) → length layout ≤ 64 → n + rest ≡ held (taken_of (kept old layout new)) i → n ≤ 64
kept_count_le old layout new i n rest few e =
    let all = held_le (taken_of (kept old layout new)) i in
    let most = length-kept_taken old layout new in
    omega arith

-- a free slot is given to the path that is least full
pub filled_free : (ps : PathList) (taken : List ℕ) (slots rest : List (Option ℕ)) (before all : List ℕ) (given : ℕ) → slots ≡ None ∷ rest → given ≡ least_full ps (held taken) → before ++ filled ps taken slots ≡ all → (before ++ given ∷ []) ++ filled ps (given ∷ taken) rest ≡ all
filled_free ps taken slots rest before all given free is e =
    append_assoc before (given ∷ []) (filled ps (given ∷ taken) rest) ∙ ap (λ b. before ++ b ∷ filled ps (b ∷ taken) rest) is ∙ ap (λ ss. before ++ filled ps taken ss) (sym free) ∙ e

pub zeros_at : (n i : ℕ) → ◌≡◌ {A = ℕ} (get_or (replicate n 0) i 0) 0
zeros_at zero i = refl
zeros_at (suc n) zero = refl
zeros_at (suc n) (suc i) = zeros_at n i

-- what is pushed and what is left
pub pushed_then : (before now part rest all : List ℕ) → now ≡ before ++ part → before ++ (part ++ rest) ≡ all → now ++ rest ≡ all
pushed_then before now part rest all e h = ap (λ xs. xs ++ rest) e ∙ append_assoc before part rest ∙ h

pub none_left : (ps : PathList) (i slots total : ℕ) (before marks all : List ℕ) → length ps ≤ i → before ++ fill (shares slots total (weights (drop i ps))) marks ≡ all → before ≡ all
none_left ps i slots total before marks all h e =
    sym (append-nil before) ∙ ap (λ qs. before ++ fill (shares slots total (weights qs)) marks) (sym (drop_all i ps h)) ∙ e

pub all_kept : (old new : PathList) (layout taken before all : List ℕ) (i : ℕ) → length layout ≤ i → before ++ filled new taken (kept old (drop i layout) new) ≡ all → before ≡ all
all_kept old new layout taken before all i h e =
    sym (append-nil before) ∙ ap (λ xs. before ++ filled new taken (kept old xs new)) (sym (drop_all i layout h)) ∙ e

pub not_less : (b : Bool) (x y : ℕ) → (x < y → b ≡ true) → b ≡ false → y ≤ x
not_less b x y is e = elim (cases_lt x y) [
  | inl h ↦ absurd (true≢false (sym (is h) ∙ e))
  | inr h ↦ h
]
