-- The pairs of indexes and numbers of a map from indexes to targets, and those of them that another list has not.
use Rattle.std.proofs.Common.{◌≡◌, ℕ, ◌<◌, Bool, true, false, cond, not, ◌&&◌, ◌||◌, ◌==◌, List, [], ◌∷◌, Option, Some, None, refl, sym, ◌∙◌, ap, subst, arith, eq-eqb, ne_eqb, true≢false, nat_lt}
use Rattle.std.specs.Prelude.{filter, option_map}
use Rattle.std.specs.List.{AllByRecursion, filter_map, cons_option, list_any}
use Rattle.std.specs.List.Sorted.{IsStrictlySortedBy}
use Rattle.std.specs.Map.{lookup, keys_of}
use Rattle.std.specs.BTreeMap.{is_at}
use Rattle.std.specs.Ordering.{nat_cmp, is_eq}
use Rattle.std.specs.declared.cmp.Ordering.TheVariants.{Less, Equal, Greater}
use Rattle.std.proofs.lemmas.Bool.{and_parts, or_cases, eqb-true}
use Rattle.std.proofs.lemmas.Bool.Decides.{nat_tests}
use Rattle.std.proofs.lemmas.Option.{none-some, same_Some}
use Rattle.module_trait.proofs.BeforeLemmas.{less_from_cmp}
use Rattle.prefix_width.specs.Nexthop.{Hop}
use Rattle.nhgrp_slots.specs.declared.target.Target.{Target}
use Rattle.nhgrp_slots.specs.declared.target.Target.TheVariants.{One, Many}
use Rattle.rib_store.specs.Plan.{Planned, number_of}
use Rattle.fib_sync.specs.VersionNames.{is_pair_in, pair_of}
use Rattle.epoch_core.specs.Fresh.{AreAbove, Ascends}
use Rattle.epoch_core.specs.Step.{are_distinct, has_index, has_pair}

-- ---- lists of pairs

pub pair_index : (i p : ℕ) (cs : List (ℕ × ℕ)) → has_pair i p cs ≡ true → has_index i cs ≡ true
pair_index i p [] h = h
pair_index i p (c ∷ cs) h = go (c.0 == i) (c.1 == p) h (pair_index i p cs)
  where
    go : (a b : Bool) → ((a && b) || has_pair i p cs) ≡ true → (has_pair i p cs ≡ true → has_index i cs ≡ true) → (a || has_index i cs) ≡ true
    go true b h ih = refl
    go false b h ih = ih h

pub index_pair : (i : ℕ) (cs : List (ℕ × ℕ)) → has_index i cs ≡ true → (p : ℕ) × (has_pair i p cs ≡ true)
index_pair i [] h = absurd (true≢false (sym h))
index_pair i (c ∷ cs) h = go (c.0 == i) refl h (index_pair i cs)
  where
    go : (a : Bool) → (c.0 == i) ≡ a → (a || has_index i cs) ≡ true → (has_index i cs ≡ true → (p : ℕ) × (has_pair i p cs ≡ true)) → (p : ℕ) × (has_pair i p (c ∷ cs) ≡ true)
    go true e h ih = (c.1, rw (e, eq-eqb c.1 c.1 refl) refl)
    go false e h ih = let more = ih h in (more.0, rw e more.1)

pub above_none : (i : ℕ) (cs : List (ℕ × ℕ)) → AreAbove i cs → has_index i cs ≡ false
above_none i [] a = refl
above_none i (c ∷ cs) a = let far = a.0 in rw (ne_eqb c.0 i (λ e. omega arith), above_none i cs a.1) refl

pub ascending_distinct : (cs : List (ℕ × ℕ)) → Ascends cs → are_distinct cs ≡ true
ascending_distinct [] a = refl
ascending_distinct (c ∷ cs) a = rw (above_none c.0 cs a.0, ascending_distinct cs a.1) refl

-- ---- the pairs that another list has not

same_pair : (c : ℕ × ℕ) (cs : List (ℕ × ℕ)) → is_pair_in c cs ≡ has_pair c.0 c.1 cs
same_pair c [] = refl
same_pair c (d ∷ cs) = ap (λ b. ((d.0 == c.0) && (d.1 == c.1)) || b) (same_pair c cs)

above-filter : (i : ℕ) (f : ℕ × ℕ → Bool) (cs : List (ℕ × ℕ)) → AreAbove i cs → AreAbove i (filter f cs)
above-filter i f [] a = a
above-filter i f (c ∷ cs) a =
    let ih = above-filter i f cs a.1 in
    elim (f c) as (λ b. AreAbove i (cond b (c ∷ filter f cs) (filter f cs))) [ true ↦ (a.0, ih) | false ↦ ih ]

pub ascends-filter : (f : ℕ × ℕ → Bool) (cs : List (ℕ × ℕ)) → Ascends cs → Ascends (filter f cs)
ascends-filter f [] a = a
ascends-filter f (c ∷ cs) a =
    let ih = ascends-filter f cs a.1 in
    let far = above-filter c.0 f cs a.0 in
    elim (f c) as (λ b. Ascends (cond b (c ∷ filter f cs) (filter f cs))) [ true ↦ (far, ih) | false ↦ ih ]

pub pair-without : (i p : ℕ) (cs old : List (ℕ × ℕ)) → has_pair i p (filter (λ c. not (is_pair_in c old)) cs) ≡ (has_pair i p cs && not (has_pair i p old))
pair-without i p [] old = refl
pair-without i p (c ∷ cs) old =
    ap (λ b. has_pair i p (cond (not b) (c ∷ filter (λ d. not (is_pair_in d old)) cs) (filter (λ d. not (is_pair_in d old)) cs))) (same_pair c old)
    ∙ go (c.0 == i) (c.1 == p) refl refl (has_pair c.0 c.1 old) refl (pair-without i p cs old)
  where
    rest : List (ℕ × ℕ)
    rest = filter (λ d. not (is_pair_in d old)) cs

    same : (c.0 == i) ≡ true → (c.1 == p) ≡ true → has_pair c.0 c.1 old ≡ has_pair i p old
    same e f =
        let a : c.0 ≡ i = eqb-true c.0 i e in
        let b : c.1 ≡ p = eqb-true c.1 p f in
        ap (λ x. has_pair x c.1 old) a ∙ ap (λ y. has_pair i y old) b

    go : (a b : Bool) → (c.0 == i) ≡ a → (c.1 == p) ≡ b → (o : Bool) → has_pair c.0 c.1 old ≡ o → has_pair i p rest ≡ (has_pair i p cs && not (has_pair i p old))
        → has_pair i p (cond (not o) (c ∷ rest) rest) ≡ (((a && b) || has_pair i p cs) && not (has_pair i p old))
    go a b e f true h ih = taken a b e f
      where
        taken : (a b : Bool) → (c.0 == i) ≡ a → (c.1 == p) ≡ b → has_pair i p rest ≡ (((a && b) || has_pair i p cs) && not (has_pair i p old))
        taken true true e f =
            let k : has_pair i p old ≡ true = sym (same e f) ∙ h in
            ih ∙ both (has_pair i p cs) k
          where
            both : (x : Bool) → has_pair i p old ≡ true → (x && not (has_pair i p old)) ≡ not (has_pair i p old)
            both true k = refl
            both false k = sym (ap not k)
        taken true false e f = ih
        taken false b e f = ih
    go a b e f false h ih = left a b e f
      where
        left : (a b : Bool) → (c.0 == i) ≡ a → (c.1 == p) ≡ b → (((c.0 == i) && (c.1 == p)) || has_pair i p rest) ≡ (((a && b) || has_pair i p cs) && not (has_pair i p old))
        left true true e f =
            let k : has_pair i p old ≡ false = sym (same e f) ∙ h in
            rw (e, f, k) refl
        left true false e f = rw (e, f) ih
        left false b e f = rw e ih

-- ---- the pairs of a map

at_eq : (i j : ℕ) → is_eq (nat_cmp i j) ≡ (j == i)
at_eq i j = go (nat_lt i j) (i == j) refl refl
  where
    go : (a b : Bool) → nat_lt i j ≡ a → (i == j) ≡ b → is_eq (cond a Less (cond b Equal Greater)) ≡ (j == i)
    go true b e f = grind (arith, nat_tests)
    go false true e f = grind (arith, nat_tests)
    go false false e f = grind (arith, nat_tests)

-- what the map has at an index is above the keys that are below all of its own
lookup_above : {X : Type 0} (j : ℕ) (es : List (ℕ × X)) (i : ℕ) (t : X) → AllByRecursion (λ x. nat_cmp j x ≡ Less) (keys_of es) → lookup (is_at (nat_cmp i)) es ≡ Some t → j < i
lookup_above j [] i t all at = absurd (none-some t at)
lookup_above {X} j (e ∷ es) i t all at = go (e.0 == i) refl (ap (λ b. cond b (Some e.1) (lookup (is_at (nat_cmp i)) es)) (sym (at_eq i e.0)) ∙ at) (lookup_above j es i t all.1)
  where
    go : (b : Bool) → (e.0 == i) ≡ b → cond b (Some e.1) (lookup (is_at (nat_cmp i)) es) ≡ Some t → (lookup (is_at (nat_cmp i)) es ≡ Some t → j < i) → j < i
    go true f k ih =
        let n : e.0 ≡ i = eqb-true e.0 i f in
        let l : j < e.0 = less_from_cmp j e.0 all.0 in
        omega arith
    go false f k ih = ih k

-- an index that the rest of the map has is not the first one
lookup_later : {X : Type 0} (j : ℕ) (s : X) (es : List (ℕ × X)) (i : ℕ) (t : X) → AllByRecursion (λ x. nat_cmp j x ≡ Less) (keys_of es) → lookup (is_at (nat_cmp i)) es ≡ Some t → lookup (is_at (nat_cmp i)) ((j, s) ∷ es) ≡ Some t
lookup_later j s es i t all at =
    let far = lookup_above j es i t all at in
    let apart : (j == i) ≡ false = ne_eqb j i (λ e. omega arith) in
    ap (λ b. cond b (Some s) (lookup (is_at (nat_cmp i)) es)) (at_eq i j ∙ apart) ∙ at

has_more : (i p : ℕ) (o : Option (ℕ × ℕ)) (cs : List (ℕ × ℕ)) → has_pair i p cs ≡ true → has_pair i p (cons_option o cs) ≡ true
has_more i p None cs h = h
has_more i p (Some c) cs h = go ((c.0 == i) && (c.1 == p))
  where
    go : (b : Bool) → (b || has_pair i p cs) ≡ true
    go true = refl
    go false = h

module _ {w : ℕ} (plan : Planned w) where
  -- what the map has of a nexthop with a number is among its pairs
  pub lookup_pair : (es : List (ℕ × Target w)) (i p : ℕ) (h : Hop) → lookup (is_at (nat_cmp i)) es ≡ Some (One h) → number_of plan h ≡ Some p → has_pair i p (filter_map (pair_of plan) es) ≡ true
  lookup_pair [] i p h at n = absurd (none-some (One h) at)
  lookup_pair ((j, One k) ∷ es) i p h at n = go (j == i) refl (ap (λ b. cond b (Some (One k)) (lookup (is_at (nat_cmp i)) es)) (sym (at_eq i j)) ∙ at) (λ f. lookup_pair es i p h f n)
    where
      go : (b : Bool) → (j == i) ≡ b → cond b (Some (One k)) (lookup (is_at (nat_cmp i)) es) ≡ Some (One h) → (lookup (is_at (nat_cmp i)) es ≡ Some (One h) → has_pair i p (filter_map (pair_of plan) es) ≡ true) → has_pair i p (cons_option (option_map (λ q. (j, q)) (number_of plan k)) (filter_map (pair_of plan) es)) ≡ true
      go true e f ih =
          let same : k ≡ h = cc in
          let m : number_of plan k ≡ Some p = ap (number_of plan) same ∙ n in
          rw m (rw (e, eq-eqb p p refl) refl)
      go false e f ih = has_more i p (option_map (λ q. (j, q)) (number_of plan k)) (filter_map (pair_of plan) es) (ih f)
  lookup_pair ((j, Many ps) ∷ es) i p h at n = go (j == i) refl (ap (λ b. cond b (Some (Many ps)) (lookup (is_at (nat_cmp i)) es)) (sym (at_eq i j)) ∙ at) (λ f. lookup_pair es i p h f n)
    where
      go : (b : Bool) → (j == i) ≡ b → cond b (Some (Many ps)) (lookup (is_at (nat_cmp i)) es) ≡ Some (One h) → (lookup (is_at (nat_cmp i)) es ≡ Some (One h) → has_pair i p (filter_map (pair_of plan) es) ≡ true) → has_pair i p (filter_map (pair_of plan) es) ≡ true
      go true e f ih = cc
      go false e f ih = ih f

  -- and a pair is of the nexthop at its index
  pub pair_lookup : (es : List (ℕ × Target w)) (i p : ℕ) → IsStrictlySortedBy nat_cmp (keys_of es) → has_pair i p (filter_map (pair_of plan) es) ≡ true
      → (h : Hop) × (lookup (is_at (nat_cmp i)) es ≡ Some (One h)) × (number_of plan h ≡ Some p)
  unfolding IsStrictlySortedBy
  pair_lookup [] i p up has = absurd (true≢false (sym has))
  pair_lookup ((j, Many ps) ∷ es) i p up has =
      let more = pair_lookup es i p up.1 has in
      (more.0, lookup_later j (Many ps) es i (One more.0) up.0 more.1, more.2)
  pair_lookup ((j, One k) ∷ es) i p up has = go (number_of plan k) refl has (later (pair_lookup es i p up.1))
    where
      later : (has_pair i p (filter_map (pair_of plan) es) ≡ true → (h : Hop) × (lookup (is_at (nat_cmp i)) es ≡ Some (One h)) × (number_of plan h ≡ Some p)) → has_pair i p (filter_map (pair_of plan) es) ≡ true → (h : Hop) × (lookup (is_at (nat_cmp i)) ((j, One k) ∷ es) ≡ Some (One h)) × (number_of plan h ≡ Some p)
      later ih h =
          let more = ih h in
          (more.0, lookup_later j (One k) es i (One more.0) up.0 more.1, more.2)

      go : (o : Option ℕ) → number_of plan k ≡ o → has_pair i p (cons_option (option_map (λ q. (j, q)) o) (filter_map (pair_of plan) es)) ≡ true → (has_pair i p (filter_map (pair_of plan) es) ≡ true → (h : Hop) × (lookup (is_at (nat_cmp i)) ((j, One k) ∷ es) ≡ Some (One h)) × (number_of plan h ≡ Some p)) → (h : Hop) × (lookup (is_at (nat_cmp i)) ((j, One k) ∷ es) ≡ Some (One h)) × (number_of plan h ≡ Some p)
      go None n h more = more h
      go (Some q) n h more = first (j == i) (q == p) refl refl h more
        where
          first : (a b : Bool) → (j == i) ≡ a → (q == p) ≡ b → ((a && b) || has_pair i p (filter_map (pair_of plan) es)) ≡ true → (has_pair i p (filter_map (pair_of plan) es) ≡ true → (h : Hop) × (lookup (is_at (nat_cmp i)) ((j, One k) ∷ es) ≡ Some (One h)) × (number_of plan h ≡ Some p)) → (h : Hop) × (lookup (is_at (nat_cmp i)) ((j, One k) ∷ es) ≡ Some (One h)) × (number_of plan h ≡ Some p)
          first true true e f g more =
              let m : q ≡ p = eqb-true q p f in
              (k, ap (λ b. cond b (Some (One k)) (lookup (is_at (nat_cmp i)) es)) (at_eq i j ∙ e), n ∙ ap (λ x. Some x) m)
          first true false e f g more = more g
          first false b e f g more = more g

  above_pairs : (j : ℕ) (es : List (ℕ × Target w)) → AllByRecursion (λ x. nat_cmp j x ≡ Less) (keys_of es) → AreAbove j (filter_map (pair_of plan) es)
  above_pairs j [] all = tt
  above_pairs j ((i, Many ps) ∷ es) all = above_pairs j es all.1
  above_pairs j ((i, One k) ∷ es) all = go (number_of plan k) (above_pairs j es all.1)
    where
      go : (o : Option ℕ) → AreAbove j (filter_map (pair_of plan) es) → AreAbove j (cons_option (option_map (λ q. (i, q)) o) (filter_map (pair_of plan) es))
      go None ih = ih
      go (Some q) ih = (less_from_cmp j i all.0, ih)

  -- the pairs ascend
  pub ascends_pairs : (es : List (ℕ × Target w)) → IsStrictlySortedBy nat_cmp (keys_of es) → Ascends (filter_map (pair_of plan) es)
  unfolding IsStrictlySortedBy
  ascends_pairs [] up = tt
  ascends_pairs ((i, Many ps) ∷ es) up = ascends_pairs es up.1
  ascends_pairs ((i, One k) ∷ es) up = go (number_of plan k) (above_pairs i es up.0) (ascends_pairs es up.1)
    where
      go : (o : Option ℕ) → AreAbove i (filter_map (pair_of plan) es) → Ascends (filter_map (pair_of plan) es) → Ascends (cons_option (option_map (λ q. (i, q)) o) (filter_map (pair_of plan) es))
      go None far ih = ih
      go (Some q) far ih = (far, ih)
