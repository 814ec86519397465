-- Lists of paths through `put_path` and a filter.
use Rattle.std.proofs.Common.{◌≡◌, ℕ, ◌++◌, ◌+◌, ◌<◌, ◌≤◌, List, [], ◌∷◌, length, filter, Bool, true, false, cond, ◌||◌, not, refl, sym, ◌∙◌, ap, subst, arith}
use Rattle.std.specs.declared.cmp.Ordering.{Ordering}
use Rattle.std.specs.declared.cmp.Ordering.TheVariants.{Less, Equal, Greater}
use Rattle.std.specs.List.{insert, position_or_len, list_any, position, prefix_len, AllByRecursion}
use Rattle.std.specs.List.Sorted.{IsStrictlySortedBy}
use Rattle.std.specs.Ordering.{is_lt, is_eq, ordering_reverse}
use Rattle.std.proofs.lemmas.Bool.{or_parts, both_ways}
use Rattle.std.proofs.lemmas.Grind.{common_steps}
use Rattle.prefix_width.specs.Nexthop.{Hop}
use Rattle.prefix_width.specs.Path.{WeightedHop}
use Rattle.prefix_width.specs.Order.{hop_cmp}
use Rattle.prefix_width.proofs.OrderLemmas.{hop_total}
use Rattle.std.specs.Option.{unwrap_or}
use Rattle.nhgrp_slots.specs.PathList.{IsPathList, put_path, clashes, hops, drops}

or_from_false : (x y : Bool) → x ≡ false → y ≡ false → (x || y) ≡ false
or_from_false x y p q = rw (p, q) refl

-- one path more
pub length-put_path : (ps : List WeightedHop) (p : WeightedHop) → length (put_path ps p) ≡ length ps + 1
length-put_path [] p = grind (arith, common_steps)
length-put_path (q ∷ qs) p =
    let ih = length-put_path qs p in
    elim (is_lt (hop_cmp p.nexthop q.nexthop)) as (λ b. length (cond b (p ∷ q ∷ qs) (q ∷ put_path qs p)) ≡ length (q ∷ qs) + 1) [
      | true ↦ grind (arith, common_steps)
      | false ↦ grind (arith, common_steps)
    ]

-- it is put in where the first greater one stands
pub insert-put_path : (ps : List WeightedHop) (p : WeightedHop) → insert ps (position_or_len (λ q. is_lt (hop_cmp p.nexthop q.nexthop)) ps) p ≡ put_path ps p
insert-put_path [] p = refl
insert-put_path (q ∷ qs) p =
    let after : WeightedHop → Bool = λ r. not (is_lt (hop_cmp p.nexthop r.nexthop)) in
    let ih : insert qs (prefix_len after qs) p ≡ put_path qs p = insert-put_path qs p in
    elim (is_lt (hop_cmp p.nexthop q.nexthop)) as (λ b. insert (q ∷ qs) (cond (not b) (1 + prefix_len after qs) 0) p ≡ cond b (p ∷ q ∷ qs) (q ∷ put_path qs p)) [
      | true ↦ grind (arith, common_steps)
      | false ↦ rw (← ih) (grind (arith, common_steps))
    ]

-- what comes of a copy of the paths into which one is put there
pub put_in : (ps none taken copied all : List WeightedHop) (p : WeightedHop) (n : ℕ) → none ≡ [] → taken ≡ ps → copied ≡ none ++ taken → n ≡ position_or_len (λ q. is_lt (hop_cmp p.nexthop q.nexthop)) ps → all ≡ insert copied n p → all ≡ put_path ps p
put_in ps none taken copied all p n empty same copy place put =
    let whole : copied ≡ ps = copy ∙ ap (λ (qs : List WeightedHop). qs ++ taken) empty ∙ same in
    put ∙ ap (λ (qs : List WeightedHop). insert qs n p) whole ∙ ap (λ (m : ℕ). insert ps m p) place ∙ insert-put_path ps p

-- what holds of each nexthop and of the new one holds of each after
all-put_path : (P : Hop → Type 0) (ps : List WeightedHop) (p : WeightedHop) → P p.nexthop → AllByRecursion P (hops ps) → AllByRecursion P (hops (put_path ps p))
all-put_path P [] p h all = (h, all)
all-put_path P (q ∷ qs) p h all =
    let ih = all-put_path P qs p h all.1 in
    elim (is_lt (hop_cmp p.nexthop q.nexthop)) as (λ b. AllByRecursion P (hops (cond b (p ∷ q ∷ qs) (q ∷ put_path qs p)))) [
      | true ↦ (h, all)
      | false ↦ (all.0, ih)
    ]

all_weaker : (P Q : Hop → Type 0) → ((h : Hop) → P h → Q h) → (hs : List Hop) → AllByRecursion P hs → AllByRecursion Q hs
all_weaker P Q f [] all = all
all_weaker P Q f (h ∷ hs) all = (f h all.0, all_weaker P Q f hs all.1)

-- the order stays, where the nexthop is new
pub ascend-put_path : (ps : List WeightedHop) (p : WeightedHop) → list_any (λ q. is_eq (hop_cmp q.nexthop p.nexthop)) ps ≡ false → IsStrictlySortedBy hop_cmp (hops ps) → IsStrictlySortedBy hop_cmp (hops (put_path ps p))
unfolding IsStrictlySortedBy
ascend-put_path [] p new up = (tt, tt)
ascend-put_path (q ∷ qs) p new up =
    let parts = or_parts (is_eq (hop_cmp q.nexthop p.nexthop)) (list_any (λ r. is_eq (hop_cmp r.nexthop p.nexthop)) qs) new in
    go (hop_cmp p.nexthop q.nexthop) refl parts.0 (ascend-put_path qs p parts.1 up.1)
  where
    go : (o : Ordering) → hop_cmp p.nexthop q.nexthop ≡ o → is_eq (hop_cmp q.nexthop p.nexthop) ≡ false → IsStrictlySortedBy hop_cmp (hops (put_path qs p)) → IsStrictlySortedBy hop_cmp (hops (cond (is_lt o) (p ∷ q ∷ qs) (q ∷ put_path qs p)))
    go Less e n rest =
        ((e, all_weaker (λ h. hop_cmp q.nexthop h ≡ Less) (λ h. hop_cmp p.nexthop h ≡ Less) (λ h l. hop_total.trans p.nexthop q.nexthop h e l) (hops qs) up.0), up)
    go Equal e n rest =
        let back : hop_cmp q.nexthop p.nexthop ≡ Equal = hop_total.antisymm q.nexthop p.nexthop ∙ ap ordering_reverse e in
        absurd (both_ways _ n (ap is_eq back))
    go Greater e n rest =
        let back : hop_cmp q.nexthop p.nexthop ≡ Less = hop_total.antisymm q.nexthop p.nexthop ∙ ap ordering_reverse e in
        (all-put_path (λ h. hop_cmp q.nexthop h ≡ Less) qs p back up.0, rest)

-- what each path and the new one fail, each fails after
pub none-put_path : (t : WeightedHop → Bool) (ps : List WeightedHop) (p : WeightedHop) → t p ≡ false → list_any t ps ≡ false → list_any t (put_path ps p) ≡ false
none-put_path t [] p h none = or_from_false (t p) false h refl
none-put_path t (q ∷ qs) p h none =
    let parts = or_parts (t q) (list_any t qs) none in
    let ih = none-put_path t qs p h parts.1 in
    elim (is_lt (hop_cmp p.nexthop q.nexthop)) as (λ b. list_any t (cond b (p ∷ q ∷ qs) (q ∷ put_path qs p)) ≡ false) [
      | true ↦ or_from_false (t p) (t q || list_any t qs) h none
      | false ↦ or_from_false (t q) (list_any t (put_path qs p)) parts.0 ih
    ]

-- two tests fail together where each fails
apart : (s t : WeightedHop → Bool) (ps : List WeightedHop) → list_any (λ q. s q || t q) ps ≡ false → (list_any s ps ≡ false) × (list_any t ps ≡ false)
apart s t [] h = (refl, refl)
apart s t (q ∷ qs) h =
    let parts = or_parts (s q || t q) (list_any (λ r. s r || t r) qs) h in
    let here = or_parts (s q) (t q) parts.0 in
    let ih = apart s t qs parts.1 in
    (or_from_false (s q) (list_any s qs) here.0 ih.0, or_from_false (t q) (list_any t qs) here.1 ih.1)

-- a path that does not clash may be put in, where there is room
pub joins : (ps : List WeightedHop) (p : WeightedHop) → IsPathList ps → clashes ps p ≡ false → length ps < 64 → IsPathList (put_path ps p)
joins ps p is fine room =
    let parts = or_parts (list_any (λ q. is_eq (hop_cmp q.nexthop p.nexthop) || drops q.nexthop.kind) ps) (drops p.nexthop.kind) fine in
    let both = apart (λ q. is_eq (hop_cmp q.nexthop p.nexthop)) (λ q. drops q.nexthop.kind) ps parts.0 in
    let n = length-put_path ps p in
    record {
      some = omega arith;
      room = omega arith;
      ascend = ascend-put_path ps p both.0 is.ascend;
      alone = λ _. none-put_path (λ q. drops q.nexthop.kind) ps p parts.1 both.1;
    }

-- one path alone
pub single : (ps : List WeightedHop) (p : WeightedHop) → ps ≡ p ∷ [] → IsPathList ps
unfolding IsStrictlySortedBy
single ps p e = subst IsPathList (sym e) (record { some = omega arith; room = omega arith; ascend = (tt, tt); alone = λ h. absurd (omega arith) })

prefix_len_le : (t : WeightedHop → Bool) (ps : List WeightedHop) → prefix_len t ps ≤ length ps
prefix_len_le t [] = omega arith
prefix_len_le t (q ∷ qs) =
    let ih = prefix_len_le t qs in
    elim (t q) as (λ b. cond b (1 + prefix_len t qs) 0 ≤ length (q ∷ qs)) [ true ↦ omega arith | false ↦ omega arith ]

-- the place among all is the first that passes, or the end
pub place_from_position : (t : WeightedHop → Bool) (ps : List WeightedHop) → unwrap_or (position t ps) (length ps) ≡ position_or_len t ps
place_from_position t ps = grind (arith, common_steps, prefix_len_le (λ x. not (t x)) ps)

-- what a filter keeps
length-filter-le : (t : WeightedHop → Bool) (ps : List WeightedHop) → length (filter t ps) ≤ length ps
length-filter-le t [] = omega arith
length-filter-le t (p ∷ ps) =
    let ih = length-filter-le t ps in
    elim (t p) as (λ b. length (cond b (p ∷ filter t ps) (filter t ps)) ≤ length (p ∷ ps)) [ true ↦ omega arith | false ↦ omega arith ]

all-filter : (P : Hop → Type 0) (t : WeightedHop → Bool) (ps : List WeightedHop) → AllByRecursion P (hops ps) → AllByRecursion P (hops (filter t ps))
all-filter P t [] all = all
all-filter P t (p ∷ ps) all =
    let ih = all-filter P t ps all.1 in
    elim (t p) as (λ b. AllByRecursion P (hops (cond b (p ∷ filter t ps) (filter t ps)))) [ true ↦ (all.0, ih) | false ↦ ih ]

ascend-filter : (t : WeightedHop → Bool) (ps : List WeightedHop) → IsStrictlySortedBy hop_cmp (hops ps) → IsStrictlySortedBy hop_cmp (hops (filter t ps))
unfolding IsStrictlySortedBy
ascend-filter t [] up = up
ascend-filter t (p ∷ ps) up =
    let ih = ascend-filter t ps up.1 in
    let all = all-filter (λ h. hop_cmp p.nexthop h ≡ Less) t ps up.0 in
    elim (t p) as (λ b. IsStrictlySortedBy hop_cmp (hops (cond b (p ∷ filter t ps) (filter t ps)))) [ true ↦ (all, ih) | false ↦ ih ]

none-filter : (d t : WeightedHop → Bool) (ps : List WeightedHop) → list_any d ps ≡ false → list_any d (filter t ps) ≡ false
none-filter d t [] none = refl
none-filter d t (p ∷ ps) none =
    let parts = or_parts (d p) (list_any d ps) none in
    let ih = none-filter d t ps parts.1 in
    elim (t p) as (λ b. list_any d (cond b (p ∷ filter t ps) (filter t ps)) ≡ false) [ true ↦ or_from_false (d p) (list_any d (filter t ps)) parts.0 ih | false ↦ ih ]

-- some of the paths are a list of paths
pub filtered : (t : WeightedHop → Bool) (ps qs : List WeightedHop) → qs ≡ filter t ps → 1 ≤ length qs → IsPathList ps → IsPathList qs
filtered t ps qs e some is =
    let n = length-filter-le t ps in
    let l : length qs ≡ length (filter t ps) = ap length e in
    subst IsPathList (sym e) (record {
      some = omega arith;
      room = let r = is.room in omega arith;
      ascend = ascend-filter t ps is.ascend;
      alone = λ h. none-filter (λ p. drops p.nexthop.kind) t ps (is.alone (omega arith));
    })
