-- What is live: the keys of the counts are the distinct nexthops and groups, and fewer paths leave no more of them.
use Rattle.std.proofs.Common.{◌≡◌, ℕ, ◌+◌, ◌-◌, ◌≤◌, ◌<◌, ◌==◌, Option, Some, None, subst, List, [], ◌∷◌, length, Bool, true, false, cond, not, ◌&&◌, ◌||◌, refl, sym, ◌∙◌, ap, arith, nat_lt, filter, zero-add}
use Rattle.std.specs.Prelude.{count_by}
use Rattle.std.specs.Bool.{OnTrue, OnFalse}
use Rattle.std.specs.List.{list_any}
use Rattle.std.specs.Ordering.{is_eq}
use Rattle.std.specs.Cmp.{IsTotalOrder}
use Rattle.std.specs.declared.cmp.Ordering.{Ordering}
use Rattle.std.specs.Map.{keys_of, values_of, remove_entry, set_value}
use Rattle.std.specs.BTreeMap.{is_at}
use Rattle.std.proofs.lemmas.Bool.Decides.{nat_tests}
use Rattle.std.proofs.lemmas.Cmp.{eq_by_cmp_equiv}
use Rattle.std.proofs.lemmas.List.Folds.{list_any-append}
use Rattle.std.proofs.lemmas.List.Sums.{sum_by-cons}
use Rattle.std.proofs.lemmas.Map.{length-set_value}
use Rattle.std.proofs.lemmas.Map.Entries.{length-keys_of}
use Rattle.std.proofs.lemmas.Map.Keys.{IsDistinct-from_sorted}
use Rattle.std.proofs.lemmas.Map.Lookups.{CmpEqualImpliesEq}
use Rattle.std.proofs.lemmas.Map.Made.{length-le_from_is_member}
use Rattle.prefix_width.specs.Nexthop.{Hop}
use Rattle.prefix_width.specs.Order.{hop_cmp}
use Rattle.prefix_width.proofs.OrderLemmas.{hop_total, hop_exact}
use Rattle.nhgrp_slots.specs.Order.{spread_cmp, spread_total}
use Rattle.nhgrp_slots.specs.PathList as list
use Rattle.nhgrp_slots.specs.PathList.{PathList}
use Rattle.nhgrp_slots.specs.Spread.{hops, is_group, IsSpread, names, Spread}
use Rattle.nhgrp_slots.proofs.PathOrder.{spread_exact}
use Rattle.counted_map.specs.Counts.{Counts, count_of, distinct, how_many, unlinked, unlinked_all}
use Rattle.counted_map.proofs.CountMapLemmas.{keys_are_distinct, any-distinct, sorted-distinct}
use Rattle.rib_store.specs.Live.{hops_of, live_hops, live_groups}
use Rattle.rib_store.specs.Table.{Table, live_count}
use Rattle.rib_store.specs.Uses.{Uses, live_in, gained, lost, grown, shrunk, with_paths, without_old, AreCounts, HasPaths, HasOld, IsCounted}
use Rattle.rib_store.proofs.CountedLemmas.{any-hops, AreCounts-with, live_in-with, live_in-without}

any-count : {X : Type 0} (f : X → Bool) (xs : List X) → nat_lt 0 (count_by f xs) ≡ list_any f xs
any-count f [] = refl
any-count {X} f (x ∷ xs) = ap (nat_lt 0) (sum_by-cons (λ y. cond (f y) 1 0) x xs) ∙ go (f x) (any-count f xs)
  where
    go : (b : Bool) → nat_lt 0 (count_by f xs) ≡ list_any f xs → nat_lt 0 (cond b 1 0 + count_by f xs) ≡ (b || list_any f xs)
    go true h = grind (arith, nat_tests)
    go false h = ap (nat_lt 0) (zero-add (count_by f xs)) ∙ h

any-sum : (a b : ℕ) → nat_lt 0 (a + b) ≡ (nat_lt 0 a || nat_lt 0 b)
any-sum a b = grind (arith, nat_tests)

pub any-filter : {X : Type 0} (f t : X → Bool) (xs : List X) → list_any f (filter t xs) ≡ list_any (λ x. t x && f x) xs
any-filter f t [] = refl
any-filter f t (x ∷ xs) =
    let ih = any-filter f t xs in
    elim (t x) as (λ b. list_any f (cond b (x ∷ filter t xs) (filter t xs)) ≡ ((b && f x) || list_any (λ y. t y && f y) xs)) [ true ↦ ap (λ b. f x || b) ih | false ↦ ih ]

split : (g n : Bool) (a b : Bool) → ((not g && n) || a) || ((g && n) || b) ≡ (n || (a || b))
split true true true b = refl
split true true false b = refl
split true false a b = refl
split false true a b = refl
split false false a b = refl

any-hops_of : (h : Hop) (lists : List Spread) → (list_any (λ ps. not (is_group ps) && names h ps) lists || list_any (λ ps. is_group ps && names h ps) lists) ≡ list_any (is_at (hop_cmp h)) (hops_of lists)
any-hops_of h [] = refl
any-hops_of h (ps ∷ rest) =
    split (is_group ps) (names h ps) (list_any (λ qs. not (is_group qs) && names h qs) rest) (list_any (λ qs. is_group qs && names h qs) rest)
    ∙ ap (λ b. names h ps || b) (any-hops_of h rest)
    ∙ ap (λ b. b || list_any (is_at (hop_cmp h)) (hops_of rest)) (sym (any-hops (is_at (hop_cmp h)) ps.paths))
    ∙ sym (list_any-append (is_at (hop_cmp h)) (hops ps) (hops_of rest))

pub keys_groups : (lists : List Spread) (u : Uses) → IsCounted lists u → AreCounts u → keys_of u.groups ≡ live_groups lists
keys_groups lists u counted are =
    keys_are_distinct spread_cmp spread_total spread_exact u.groups (filter is_group lists) are.groups
    (λ q. ap (nat_lt 0) (counted.groups q) ∙ any-count (λ ps. is_group ps && is_eq (spread_cmp q ps)) lists ∙ sym (any-filter (is_at (spread_cmp q)) is_group lists))

pub keys_nhops : (lists : List Spread) (u : Uses) → IsCounted lists u → AreCounts u → keys_of u.nhops ≡ live_hops lists
keys_nhops lists u counted are =
    keys_are_distinct hop_cmp hop_total hop_exact u.nhops (hops_of lists) are.nhops
    (λ h. ap (nat_lt 0) (counted.nhops h) ∙ any-sum _ _
    ∙ ap (λ b. b || nat_lt 0 (count_by (names h) (keys_of u.groups))) (any-count (λ ps. not (is_group ps) && names h ps) lists)
    ∙ ap (λ b. list_any (λ ps. not (is_group ps) && names h ps) lists || b) (in_groups h)
    ∙ any-hops_of h lists)
  where
    in_groups : (h : Hop) → nat_lt 0 (count_by (names h) (keys_of u.groups)) ≡ list_any (λ ps. is_group ps && names h ps) lists
    in_groups h =
        any-count (names h) (keys_of u.groups)
        ∙ ap (list_any (names h)) (keys_groups lists u counted are)
        ∙ any-distinct spread_cmp spread_total spread_exact (names h) (filter is_group lists)
        ∙ any-filter (names h) is_group lists

-- the number of live targets is that of the entries
pub counted_live : (lists : List Spread) (u : Uses) → IsCounted lists u → AreCounts u → live_in u ≡ length (live_hops lists) + length (live_groups lists)
counted_live lists u counted are =
    let a = sym (length-keys_of u.nhops) ∙ ap length (keys_nhops lists u counted are) in
    let b = sym (length-keys_of u.groups) ∙ ap length (keys_groups lists u counted are) in
    omega arith

-- how many are live once the new paths are counted, and the old ones not any more
pub after_none : (u : Uses) (new : Spread) (o : Option Spread) (l g : ℕ) → o ≡ None → l ≡ live_in u → g ≡ grown u new → AreCounts u → IsSpread new → l + g ≡ live_in (without_old (with_paths u new) o)
after_none u new o l g e size more are is =
    let a = live_in-with u new are is in
    subst (λ x. l + g ≡ live_in (without_old (with_paths u new) x)) (sym e) (omega arith)

pub after_some : (u : Uses) (new old : Spread) (o : Option Spread) (l g s : ℕ) → o ≡ Some old → l ≡ live_in u → g ≡ grown u new → s ≡ shrunk (with_paths u new) old → AreCounts u → IsSpread new → IsSpread old → HasOld (with_paths u new) o → (s ≤ l + g) × (l + g - s ≡ live_in (without_old (with_paths u new) o))
after_some u new old o l g s e size more less are is js has =
    let a = live_in-with u new are is in
    let h : HasPaths (with_paths u new) old = subst (HasOld (with_paths u new)) e has in
    let b = live_in-without (with_paths u new) old (AreCounts-with u new are) js h in
    (omega arith, subst (λ x. l + g - s ≡ live_in (without_old (with_paths u new) x)) (sym e) (omega arith))

how_many-le : {K : Type 0} (t : K → Bool) (ks : List K) → how_many t ks ≤ length ks
how_many-le t [] = omega arith
how_many-le t (k ∷ ks) =
    let ih = how_many-le t ks in
    elim (t k) as (λ b. cond b 1 0 + how_many t ks ≤ length (k ∷ ks)) [ true ↦ omega arith | false ↦ omega arith ]

length-hops : (ps : PathList) → length (list.hops ps) ≡ length ps
length-hops [] = refl
length-hops (p ∷ ps) = let ih = length-hops ps in omega arith

-- a route brings no more targets to life than it has paths, and its group
grown-le : (u : Uses) (ps : Spread) → grown u ps ≤ length ps.paths + 1
grown-le u ps =
    let n = how_many-le (λ h. count_of hop_cmp u.nhops h == 0) (gained u ps) in
    let l = of (is_group ps && not (count_of spread_cmp u.groups ps == 0)) in
    let e = one (is_group ps && (count_of spread_cmp u.groups ps == 0)) in
    omega arith
  where
    of : (b : Bool) → length (cond b [] (hops ps)) ≤ length ps.paths
    of true = omega arith
    of false = let h = length-hops ps.paths in omega arith

    one : (b : Bool) → cond b 1 0 ≤ 1
    one true = omega arith
    one false = omega arith

length-removed-le : {K : Type 0} (t : K → Bool) (m : Counts K) → length (remove_entry t m) ≤ length m
length-removed-le t [] = omega arith
length-removed-le t (e ∷ es) =
    let ih = length-removed-le t es in
    elim (t e.0) as (λ b. length (cond b es (e ∷ remove_entry t es)) ≤ length (e ∷ es)) [ true ↦ omega arith | false ↦ omega arith ]

length-unlinked-le : {K : Type 0} (cmp : K → K → Ordering) (m : Counts K) (k : K) → length (unlinked cmp m k) ≤ length m
length-unlinked-le cmp m k = go (count_of cmp m k == 1)
  where
    go : (b : Bool) → length (cond b (remove_entry (is_at (cmp k)) m) (set_value (is_at (cmp k)) m (count_of cmp m k - 1))) ≤ length m
    go true = length-removed-le (is_at (cmp k)) m
    go false = let s = length-set_value (is_at (cmp k)) m (count_of cmp m k - 1) in omega arith

length-unlinked_all-le : {K : Type 0} (cmp : K → K → Ordering) (m : Counts K) (ks : List K) → length (unlinked_all cmp m ks) ≤ length m
length-unlinked_all-le cmp m [] = omega arith
length-unlinked_all-le cmp m (k ∷ ks) =
    let ih = length-unlinked_all-le cmp (unlinked cmp m k) ks in
    let h = length-unlinked-le cmp m k in
    omega arith

-- a route less leaves no more targets
live_in-without-le : (u : Uses) (o : Option Spread) → live_in (without_old u o) ≤ live_in u
live_in-without-le u None = omega arith
live_in-without-le u (Some ps) =
    let n = length-unlinked_all-le hop_cmp u.nhops (lost u ps) in
    let g = go (is_group ps) in
    omega arith
  where
    go : (b : Bool) → length (cond b (unlinked spread_cmp u.groups ps) u.groups) ≤ length u.groups
    go true = length-unlinked-le spread_cmp u.groups ps
    go false = omega arith

-- a limit so far away is not passed
pub within_far : (u : Uses) (new : Spread) (o : Option Spread) (l n limit : ℕ) → l ≡ live_in u → n ≡ length new.paths → l + n < limit → AreCounts u → IsSpread new → live_in (without_old (with_paths u new) o) ≤ limit
within_far u new o l n limit size count far are is =
    let a = live_in-with u new are is in
    let b = grown-le u new in
    let d = live_in-without-le (with_paths u new) o in
    omega arith

pub over_limit : (limit n m : ℕ) → n ≡ m → OnTrue (nat_lt limit n) (limit < m)
over_limit limit n m e = go (nat_lt limit n) refl
  where
    go : (b : Bool) → nat_lt limit n ≡ b → OnTrue b (limit < m)
    go true h = grind (arith, nat_tests)
    go false h = tt

pub within_limit : (limit n m : ℕ) → n ≡ m → OnFalse (nat_lt limit n) (m ≤ limit)
within_limit limit n m e = go (nat_lt limit n) refl
  where
    go : (b : Bool) → nat_lt limit n ≡ b → OnFalse b (m ≤ limit)
    go true h = tt
    go false h = grind (arith, nat_tests)

-- a list has no more distinct elements than one that has all of them
distinct-le : {K : Type 0} (cmp : K → K → Ordering) (o : IsTotalOrder cmp) (exact : CmpEqualImpliesEq cmp) (xs ys : List K)
    → ((q : K) → list_any (is_at (cmp q)) xs ≡ true → list_any (is_at (cmp q)) ys ≡ true)
    → length (distinct cmp xs) ≤ length (distinct cmp ys)
distinct-le cmp o exact xs ys all =
    length-le_from_is_member (eq_by_cmp_equiv o) (distinct cmp xs) (distinct cmp ys)
    (IsDistinct-from_sorted cmp (distinct cmp xs) (sorted-distinct cmp o xs))
    (λ q e. any-distinct cmp o exact (is_at (cmp q)) ys ∙ all q (sym (any-distinct cmp o exact (is_at (cmp q)) xs) ∙ e))

-- what some of the rows pass, some of all of them pass
abbrev pub Among : Table → Table → Type 0
Among less rows = (f : Spread → Bool) → list_any f (values_of less) ≡ true → list_any f (values_of rows) ≡ true

pub any-in_hops : (f : Hop → Bool) (lists : List Spread) → list_any f (hops_of lists) ≡ list_any (λ ps. list_any f (hops ps)) lists
any-in_hops f [] = refl
any-in_hops f (ps ∷ rest) = list_any-append f (hops ps) (hops_of rest) ∙ ap (λ b. list_any f (hops ps) || b) (any-in_hops f rest)

-- fewer rows have no more live targets
pub live_count-le : (less rows : Table) → Among less rows → live_count less ≤ live_count rows
live_count-le less rows among =
    let h = distinct-le hop_cmp hop_total hop_exact (hops_of (values_of less)) (hops_of (values_of rows)) (λ q e. hop q e) in
    let g = distinct-le spread_cmp spread_total spread_exact (filter is_group (values_of less)) (filter is_group (values_of rows)) (λ q e. group q e) in
    omega arith
  where
    hop : (q : Hop) → list_any (is_at (hop_cmp q)) (hops_of (values_of less)) ≡ true → list_any (is_at (hop_cmp q)) (hops_of (values_of rows)) ≡ true
    hop q e =
        any-in_hops (is_at (hop_cmp q)) (values_of rows)
        ∙ among (λ ps. list_any (is_at (hop_cmp q)) (hops ps)) (sym (any-in_hops (is_at (hop_cmp q)) (values_of less)) ∙ e)

    group : (q : Spread) → list_any (is_at (spread_cmp q)) (filter is_group (values_of less)) ≡ true → list_any (is_at (spread_cmp q)) (filter is_group (values_of rows)) ≡ true
    group q e =
        any-filter (is_at (spread_cmp q)) is_group (values_of rows)
        ∙ among (λ ps. is_group ps && is_eq (spread_cmp q ps)) (sym (any-filter (is_at (spread_cmp q)) is_group (values_of less)) ∙ e)
