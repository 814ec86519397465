-- Slots: the shares are all of them, each is filled, and a flow's slot stands for its path.
use Rattle.std.proofs.Common.{◌≡◌, ℕ, suc, ◌+◌, ◌-◌, ◌*◌, ◌/◌, ◌%◌, ◌<◌, ◌≤◌, Bool, true, false, cond, nat_lt, List, [], ◌∷◌, ◌++◌, Some, refl, sym, ◌∙◌, ap, subst, arith, length, sum, take, drop, get_or, replicate, map, length-append}
use Rattle.std.specs.Prelude.{All, slice_get}
use Rattle.std.proofs.Math.Nat.{mul-div_cancel, mul-sub, mul-div_cancel_left, mul-le-mul_left, div-le_of_le-mul, div-mul_cancel, mod-lt}
use Rattle.std.proofs.lemmas.Bool.{ltb-true, ltb-false}
use Rattle.std.proofs.lemmas.Grind.{common_steps}
use Rattle.std.proofs.lemmas.List.{drop_more, take_more, map-append, length-map, length-replicate, get_or-replicate, get_or_append_left, get_or-append-add}
use Rattle.std.proofs.lemmas.List.Elements.{All-head, All-tail, All-map, All-weaker, All-push}
use Rattle.std.proofs.lemmas.List.Sums.{sum_by-cons}
use Rattle.std.proofs.lemmas.Nat.{le-div}
use Rattle.std.proofs.lemmas.Option.{slice_get-get_or}
use Prim.Native.Nat.{◌∣◌}
use Rattle.prefix_width.specs.Path.{WeightedHop, IsWeight}
use Rattle.nhgrp_slots.specs.PathList.{hops}
use Rattle.nhgrp_slots.specs.Slots.{HaveWeights, weights, gcd_of, size_of, shares, shares_of, fill, slots_of, pick_by_weights}
use Rattle.nhgrp_slots.specs.Laws.{SharesAreAll, SmallSharesAreExact}
use Rattle.nhgrp_slots.proofs.DivisorLemmas.{gcd_of_divides, gcd_of-le_sum, dvd-sum}

-- the sum of a list from its first number
pub sum_cons : (w : ℕ) (ws : List ℕ) → sum (w ∷ ws) ≡ w + sum ws
sum_cons w ws = sum_by-cons (λ x. x) w ws

-- a part of the whole gets at most all slots
pub share_le : (w slots total : ℕ) → w ≤ total → 0 < total → w * slots / total ≤ slots
share_le w slots total h pos = div-le_of_le-mul total (omega (arith, mul-le-mul_left slots h))

-- the shares are all slots
pub sum-shares : (slots total : ℕ) (ws : List ℕ) → All (λ w. 0 < w) ws → total ≡ sum ws → 0 < length ws → sum (shares slots total ws) ≡ slots
sum-shares slots total [] pos e some = absurd (omega arith)
sum-shares slots total (w ∷ []) pos e some =
    let here : 0 < w = All-head (λ v. 0 < v) w [] pos in
    let split : sum (w ∷ []) ≡ w + sum [] = sum_cons w [] in
    let none : sum [] ≡ 0 = refl in
    let same : total ≡ w = omega arith in
    let whole : w * slots / w ≡ slots = mul-div_cancel_left slots here in
    rw same (rw whole (sum_cons slots [] ∙ omega (arith, none)))
sum-shares slots total (w ∷ (v ∷ vs)) pos e some =
    let here : 0 < w = All-head (λ v. 0 < v) w (v ∷ vs) pos in
    let split : sum (w ∷ (v ∷ vs)) ≡ w + sum (v ∷ vs) = sum_cons w (v ∷ vs) in
    let n = share_le w slots total (omega arith) (omega arith) in
    let ih = sum-shares (slots - w * slots / total) (total - w) (v ∷ vs) (All-tail (λ v. 0 < v) w (v ∷ vs) pos) (omega arith) (omega arith) in
    sum_cons (w * slots / total) (shares (slots - w * slots / total) (total - w) (v ∷ vs)) ∙ omega arith

regroup : (n g s : ℕ) → n * g * s ≡ n * (s * g)
regroup n g s = omega arith

less : (n g s t w : ℕ) → n * g ≡ w → t ≡ s * g → t - w ≡ (s - n) * g
less n g s t w e f = omega (arith, mul-sub g s n)

-- where the slots are the sum by a common divisor, each weight gets its part by that divisor
pub shares-exact : (g s t : ℕ) (ws : List ℕ) → 0 < g → t ≡ s * g → All (λ w. 0 < w) ws → All (λ w. w / g * g ≡ w) ws → t ≡ sum ws → shares s t ws ≡ map (λ w. w / g) ws
shares-exact g s t [] pos e some whole sum-is = refl
shares-exact g s t (w ∷ ws) pos e some whole sum-is =
    let n = w / g in
    let here : n * g ≡ w = All-head (λ v. v / g * g ≡ v) w ws whole in
    let split : sum (w ∷ ws) ≡ w + sum ws = sum_cons w ws in
    let positive : 0 < w = All-head (λ v. 0 < v) w ws some in
    let product : w * s ≡ n * t = ap (λ m. m * s) (sym here) ∙ regroup n g s ∙ ap (λ m. n * m) (sym e) in
    let share : w * s / t ≡ n = ap (λ m. m / t) product ∙ mul-div_cancel n (omega arith) in
    let rest : t - w ≡ (s - n) * g = less n g s t w here e in
    let ih : shares (s - n) (t - w) ws ≡ map (λ v. v / g) ws = shares-exact g (s - n) (t - w) ws pos rest (All-tail (λ v. 0 < v) w ws some) (All-tail (λ v. v / g * g ≡ v) w ws whole) (omega arith) in
    ap (λ m. m ∷ shares (s - m) (t - w) ws) share ∙ ap (λ (xs : List ℕ). n ∷ xs) ih

pub length-shares : (slots total : ℕ) (ws : List ℕ) → length (shares slots total ws) ≡ length ws
length-shares slots total [] = refl
length-shares slots total (w ∷ ws) =
    let ih = length-shares (slots - w * slots / total) (total - w) ws in
    grind (arith, common_steps)

pub length-fill : {X : Type 0} (ns : List ℕ) (xs : List X) → length xs ≡ length ns → length (fill ns xs) ≡ sum ns
length-fill [] xs e = refl
length-fill (n ∷ ns) [] e = absurd (omega arith)
length-fill (n ∷ ns) (x ∷ xs) e =
    let ih = length-fill ns xs (omega arith) in
    let split : sum (n ∷ ns) ≡ n + sum ns = sum_cons n ns in
    let parts = length-append (replicate n x) (fill ns xs) in
    let first = length-replicate n x in
    omega arith

-- the place whose share a slot is in
abbrev place_of : List ℕ → ℕ → ℕ
place_of [] slot = 0
place_of (n ∷ ns) slot = cond (nat_lt slot n) 0 (suc (place_of ns (slot - n)))

place_of-lt : (ns : List ℕ) (slot : ℕ) → slot < sum ns → place_of ns slot < length ns
place_of-lt [] slot h = absurd (omega arith)
place_of-lt (n ∷ ns) slot h = go (nat_lt slot n) refl (λ k. place_of-lt ns (slot - n) k)
  where
    go : (b : Bool) → nat_lt slot n ≡ b → (slot - n < sum ns → place_of ns (slot - n) < length ns) → cond b 0 (suc (place_of ns (slot - n))) < length (n ∷ ns)
    go true e ih = omega arith
    go false e ih =
        let past : n ≤ slot = ltb-false slot n e in
        let split : sum (n ∷ ns) ≡ n + sum ns = sum_cons n ns in
        let i = ih (omega arith) in
        omega arith

-- a slot holds the mark at its place
get-fill : {X : Type 0} (ns : List ℕ) (xs : List X) (slot : ℕ) → length xs ≡ length ns → slot < sum ns → slice_get (fill ns xs) slot ≡ slice_get xs (place_of ns slot)
get-fill [] xs slot e h = absurd (omega arith)
get-fill (n ∷ ns) [] slot e h = absurd (omega arith)
get-fill {X} (n ∷ ns) (x ∷ xs) slot e h = go (nat_lt slot n) refl (λ k. get-fill ns xs (slot - n) (omega arith) k)
  where
    within : slot < length (fill (n ∷ ns) (x ∷ xs))
    within = let l = length-fill (n ∷ ns) (x ∷ xs) e in omega arith

    go : (b : Bool) → nat_lt slot n ≡ b → (slot - n < sum ns → slice_get (fill ns xs) (slot - n) ≡ slice_get xs (place_of ns (slot - n))) → slice_get (replicate n x ++ fill ns xs) slot ≡ slice_get (x ∷ xs) (cond b 0 (suc (place_of ns (slot - n))))
    go true f ih =
        let first : slot < n = ltb-true slot n f in
        let l = length-replicate n x in
        let a = get_or_append_left (replicate n x) (fill ns xs) x slot (omega arith) in
        let r = get_or-replicate n slot x x first in
        slice_get-get_or (replicate n x ++ fill ns xs) slot x within ∙ ap (λ (y : X). Some y) (a ∙ r)
    go false f ih =
        let past : n ≤ slot = ltb-false slot n f in
        let split : sum (n ∷ ns) ≡ n + sum ns = sum_cons n ns in
        let l = length-replicate n x in
        let rest : slot - n < length (fill ns xs) = let k = length-fill ns xs (omega arith) in omega arith in
        let at : length (replicate n x) + (slot - n) ≡ slot = omega arith in
        let a : get_or (replicate n x ++ fill ns xs) slot x ≡ get_or (fill ns xs) (slot - n) x =
        ap (λ i. get_or (replicate n x ++ fill ns xs) i x) (sym at) ∙ get_or-append-add (replicate n x) (fill ns xs) (slot - n) x in
        slice_get-get_or (replicate n x ++ fill ns xs) slot x within ∙ ap (λ (y : X). Some y) a ∙ sym (slice_get-get_or (fill ns xs) (slot - n) x rest) ∙ ih (omega arith)

-- the weights of paths
pub positive : (ps : List WeightedHop) → HaveWeights ps → All (λ w. 0 < w) (weights ps)
positive ps have = All-map (λ w. 0 < w) (λ p. p.weight) ps (All-weaker (λ p. IsWeight p.nexthop.kind p.weight) (λ p. 0 < p.weight) (λ p is. is.0) ps have.1)

pub some_weights : (ps : List WeightedHop) → HaveWeights ps → 0 < length (weights ps)
some_weights ps have = let l : length (weights ps) ≡ length ps = length-map ps (λ p. p.weight) in omega (arith, have.0)

pub weights_more : (ps : List WeightedHop) (i : ℕ) (p : WeightedHop) → i < length ps → p ≡ get_or ps i p → weights (take (i + 1) ps) ≡ weights (take i ps) ++ p.weight ∷ []
weights_more ps i p h e =
    ap weights (take_more ps i p h) ∙ map-append (λ q. q.weight) (take i ps) (get_or ps i p ∷ []) ∙ ap (λ (q : WeightedHop). weights (take i ps) ++ q.weight ∷ []) (sym e)

pub all_more : (P : WeightedHop → Type 0) (ps : List WeightedHop) (i : ℕ) (p : WeightedHop) → i < length ps → p ≡ get_or ps i p → P p → All P (take i ps) → All P (take (i + 1) ps)
all_more P ps i p h e is all = rw (take_more ps i p h) (All-push P (take i ps) (get_or ps i p) all (subst P e is))

pub sum_more : (ps : List WeightedHop) (i : ℕ) (p : WeightedHop) → i < length ps → p ≡ get_or ps i p → sum (weights (drop i ps)) ≡ p.weight + sum (weights (drop (i + 1) ps))
sum_more ps i p h e =
    ap (λ qs. sum (weights qs)) (drop_more ps i p h) ∙ ap (λ (q : WeightedHop). sum (weights (q ∷ drop (i + 1) ps))) (sym e) ∙ sum_cons p.weight (weights (drop (i + 1) ps))

pub shares_are_all : SharesAreAll
shares_are_all ps have =
    let ws : List ℕ = weights ps in
    let some = some_weights ps have in
    let pos = positive ps have in
    let divides = gcd_of_divides ws some pos in
    let one : 1 ≤ sum ws / gcd_of ws = le-div 1 (sum ws) (gcd_of ws) divides.0 (let l = gcd_of-le_sum ws some pos in omega arith) in
    (omega arith, omega arith, sum-shares (size_of ws) (sum ws) ws pos refl some)

pub slots_are_filled : {X : Type 0} (ps : List WeightedHop) (marks : List X) → HaveWeights ps → length marks ≡ length ps → length (slots_of ps marks) ≡ size_of (weights ps)
slots_are_filled ps marks have same =
    let all = shares_are_all ps have in
    let n = length-shares (size_of (weights ps)) (sum (weights ps)) (weights ps) in
    let l : length (weights ps) ≡ length ps = length-map ps (λ p. p.weight) in
    length-fill (shares_of (weights ps)) marks (same ∙ sym l ∙ sym n) ∙ all.2

pub small_shares_are_exact : SmallSharesAreExact
small_shares_are_exact ps have small =
    let ws : List ℕ = weights ps in
    let g : ℕ = gcd_of ws in
    let pos = positive ps have in
    let divides = gcd_of_divides ws (some_weights ps have) pos in
    let size : size_of ws ≡ sum ws / g = omega arith in
    let whole : sum ws ≡ size_of ws * g = sym (div-mul_cancel g (dvd-sum g ws divides.1)) ∙ ap (λ n. n * g) (sym size) in
    shares-exact g (size_of ws) (sum ws) ws divides.0 whole pos (All-weaker (λ w. g ∣ w) (λ w. w / g * g ≡ w) (λ w d. div-mul_cancel g d) ws divides.1) refl

-- a flow's slot, as the shares have it, holds the mark of the path that the weights pick for the flow
pub shares_hold_picked : (ps : List WeightedHop) (marks : List ℕ) → HaveWeights ps → length marks ≡ length ps → (flow : ℕ) → (i : ℕ) × (i < length ps) × (slice_get (hops ps) i ≡ pick_by_weights ps flow) × (slice_get marks i ≡ slice_get (slots_of ps marks) (flow % length (slots_of ps marks)))
shares_hold_picked ps indexes have same flow =
    let ns : List ℕ = shares_of (weights ps) in
    let all = shares_are_all ps have in
    let slot : ℕ = flow % size_of (weights ps) in
    let n = length-shares (size_of (weights ps)) (sum (weights ps)) (weights ps) in
    let l : length (weights ps) ≡ length ps = length-map ps (λ p. p.weight) in
    let k : length (hops ps) ≡ length ps = length-map ps (λ p. p.nexthop) in
    let low : slot < size_of (weights ps) = mod-lt flow (omega (arith, all.0)) in
    let within : slot < sum ns = subst (λ m. slot < m) (sym all.2) low in
    let filled = slots_are_filled ps indexes have same in (
      place_of ns slot,
      (let p = place_of-lt ns slot within in omega arith),
      sym (get-fill ns (hops ps) slot (k ∙ sym l ∙ sym n) within),
      sym (get-fill ns indexes slot (same ∙ sym l ∙ sym n) within) ∙ ap (λ m. slice_get (slots_of ps indexes) (flow % m)) (sym filled),
    )
