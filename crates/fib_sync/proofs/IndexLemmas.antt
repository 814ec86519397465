-- The targets of a version by their indexes, and the indexes by their targets.
use Rattle.std.proofs.Common.{◌≡◌, ℕ, suc, Bool, true, false, cond, List, [], ◌∷◌, Option, Some, None, refl, sym, ap, ◌∙◌, inl, inr}
use Rattle.std.specs.Prelude.{slice_get}
use Rattle.std.specs.BTreeMap.{insert_entry, is_at}
use Rattle.std.specs.Cmp.{IsTotalOrder, eq_by_cmp_equiv}
use Rattle.std.specs.List.{AllByRecursion}
use Rattle.std.specs.List.Sorted.{IsStrictlySortedBy}
use Rattle.std.specs.Map.{keys_of, lookup}
use Rattle.std.specs.Ordering.{nat_cmp, is_eq, match_ordering, ordering_reverse}
use Rattle.std.specs.declared.cmp.Ordering.{Ordering}
use Rattle.std.specs.declared.cmp.Ordering.TheVariants.{Less, Equal, Greater}
use Rattle.std.proofs.lemmas.Cmp.{nat_cmp_total, tied_itself}
use Rattle.std.proofs.lemmas.Map.Lookups.{CmpEqualImpliesEq, exact_unsigned}
use Rattle.std.proofs.lemmas.Option.{none-some, same_Some}
use Rattle.counted_map.proofs.CountMapLemmas.{eq_from_is_eq}
use Rattle.nhop_index.specs.Indexes.{by_index, index_in, least_unused, name_and, named, target_at}
use Rattle.nhop_index.specs.Laws.{IsNamed, IsOneToOne}
use Rattle.nhop_index.proofs.SearchLemmas.{hit}

-- ---- entries put into an ordered map
all_weaker : {K : Type 0} (P Q : K → Type 0) → ((k : K) → P k → Q k) → (ks : List K) → AllByRecursion P ks → AllByRecursion Q ks
all_weaker P Q f [] all = all
all_weaker P Q f (k ∷ ks) all = (f k all.0, all_weaker P Q f ks all.1)

module _ {K X : Type 0} (cmp : K → K → Ordering) (o : IsTotalOrder cmp) where
  all_put : (P : K → Type 0) (es : List (K × X)) (k : K) (v : X) → P k → AllByRecursion P (keys_of es) → AllByRecursion P (keys_of (insert_entry cmp es k v))
  all_put P [] k v h all = (h, all)
  all_put P (e ∷ es) k v h all =
      let ih = all_put P es k v h all.1 in
      elim (cmp k e.0) as (λ r. AllByRecursion P (keys_of (match_ordering r ((k, v) ∷ e ∷ es) ((e.0, v) ∷ es) (e ∷ insert_entry cmp es k v)))) [
        | Less ↦ (h, all)
        | Equal ↦ all
        | Greater ↦ (all.0, ih)
      ]

  sorted_put : (es : List (K × X)) (k : K) (v : X) → IsStrictlySortedBy cmp (keys_of es) → IsStrictlySortedBy cmp (keys_of (insert_entry cmp es k v))
  unfolding IsStrictlySortedBy
  sorted_put [] k v up = (tt, tt)
  sorted_put (e ∷ es) k v up = go (cmp k e.0) refl (sorted_put es k v up.1)
    where
      go : (r : Ordering) → cmp k e.0 ≡ r → IsStrictlySortedBy cmp (keys_of (insert_entry cmp es k v)) → IsStrictlySortedBy cmp (keys_of (match_ordering r ((k, v) ∷ e ∷ es) ((e.0, v) ∷ es) (e ∷ insert_entry cmp es k v)))
      go Less h ih = ((h, all_weaker (λ x. cmp e.0 x ≡ Less) (λ x. cmp k x ≡ Less) (λ x l. o.trans k e.0 x h l) (keys_of es) up.0), up)
      go Equal h ih = up
      go Greater h ih =
          let back : cmp e.0 k ≡ Less = o.antisymm e.0 k ∙ ap ordering_reverse h in
          (all_put (λ x. cmp e.0 x ≡ Less) es k v back up.0, ih)

module _ {K X : Type 0} (cmp : K → K → Ordering) (o : IsTotalOrder cmp) (exact : CmpEqualImpliesEq cmp) where
  lookup_put : (es : List (K × X)) (k : K) (v : X) (q : K) → lookup (is_at (cmp q)) (insert_entry cmp es k v) ≡ cond (is_eq (cmp k q)) (Some v) (lookup (is_at (cmp q)) es)
  lookup_put [] k v q = ap (λ b. cond b (Some v) None) ((eq_by_cmp_equiv o).symm q k)
  lookup_put (e ∷ es) k v q = go (cmp k e.0) refl (lookup_put es k v q)
    where
      go : (r : Ordering) → cmp k e.0 ≡ r → lookup (is_at (cmp q)) (insert_entry cmp es k v) ≡ cond (is_eq (cmp k q)) (Some v) (lookup (is_at (cmp q)) es)
          → lookup (is_at (cmp q)) (match_ordering r ((k, v) ∷ e ∷ es) ((e.0, v) ∷ es) (e ∷ insert_entry cmp es k v)) ≡ cond (is_eq (cmp k q)) (Some v) (lookup (is_at (cmp q)) (e ∷ es))
      go Less h ih = ap (λ b. cond b (Some v) (lookup (is_at (cmp q)) (e ∷ es))) ((eq_by_cmp_equiv o).symm q k)
      go Equal h ih =
          let s : is_eq (cmp k q) ≡ is_eq (cmp q e.0) = (eq_by_cmp_equiv o).symm k q ∙ ap (λ x. is_eq (cmp q x)) (exact k e.0 h) in
          rw s (both (is_eq (cmp q e.0)))
        where
          both : (b : Bool) → cond b (Some v) (lookup (is_at (cmp q)) es) ≡ cond b (Some v) (cond b (Some e.1) (lookup (is_at (cmp q)) es))
          both true = refl
          both false = refl
      go Greater h ih = other (is_eq (cmp q e.0)) refl
        where
          other : (b : Bool) → is_eq (cmp q e.0) ≡ b → cond b (Some e.1) (lookup (is_at (cmp q)) (insert_entry cmp es k v)) ≡ cond (is_eq (cmp k q)) (Some v) (cond b (Some e.1) (lookup (is_at (cmp q)) es))
          other true f =
              let s : is_eq (cmp k q) ≡ false = ap (λ x. is_eq (cmp k x)) (exact q e.0 (eq_from_is_eq (cmp q e.0) f)) ∙ ap is_eq h in
              rw s refl
          other false f = ih

-- ---- the targets by their indexes
pub by_index_sorted : {X : Type 0} (names : List (X × ℕ)) → IsStrictlySortedBy nat_cmp (keys_of (by_index names))
unfolding IsStrictlySortedBy
by_index_sorted [] = tt
by_index_sorted (e ∷ es) = sorted_put nat_cmp nat_cmp_total (by_index es) e.1 e.0 (by_index_sorted es)

target_first : {X : Type 0} (e : X × ℕ) (es : List (X × ℕ)) (i : ℕ) → target_at (e ∷ es) i ≡ cond (is_eq (nat_cmp e.1 i)) (Some e.0) (target_at es i)
target_first e es i = lookup_put nat_cmp nat_cmp_total exact_unsigned (by_index es) e.1 e.0 i

pair_is : {X : Type 0} (e : X × ℕ) (t : X) (i : ℕ) → e.0 ≡ t → e.1 ≡ i → e ≡ (t, i)
pair_is {X} e t i a b = ap (λ x. let q : X × ℕ = (x, e.1) in q) a ∙ ap (λ n. let q : X × ℕ = (t, n) in q) b

-- the target at an index has it
pub at_named : {X : Type 0} (names : List (X × ℕ)) (i : ℕ) (t : X) → target_at names i ≡ Some t → IsNamed t i names
at_named [] i t h = absurd (none-some t h)
at_named {X} (e ∷ es) i t h = go (is_eq (nat_cmp e.1 i)) refl (sym (target_first e es i) ∙ h) (at_named es i t)
  where
    go : (b : Bool) → is_eq (nat_cmp e.1 i) ≡ b → cond b (Some e.0) (target_at es i) ≡ Some t → (target_at es i ≡ Some t → IsNamed t i es) → IsNamed t i (e ∷ es)
    go true y k ih = inl (pair_is e t i (same_Some e.0 t k) (exact_unsigned e.1 i (eq_from_is_eq (nat_cmp e.1 i) y)))
    go false y k ih = inr (ih k)

some_target : {X : Type 0} (names : List (X × ℕ)) (t : X) (i : ℕ) → IsNamed t i names → (s : X) × (target_at names i ≡ Some s)
some_target [] t i h = elim h [ ]
some_target {X} (e ∷ es) t i (inl h) =
    let same : is_eq (nat_cmp e.1 i) ≡ true = ap (λ (x : X × ℕ). is_eq (nat_cmp x.1 i)) h ∙ ap is_eq (tied_itself nat_cmp_total i) in
    (e.0, target_first e es i ∙ ap (λ b. cond b (Some e.0) (target_at es i)) same)
some_target {X} (e ∷ es) t i (inr h) = go (is_eq (nat_cmp e.1 i)) refl (some_target es t i h)
  where
    go : (b : Bool) → is_eq (nat_cmp e.1 i) ≡ b → (s : X) × (target_at es i ≡ Some s) → (s : X) × (target_at (e ∷ es) i ≡ Some s)
    go true y r = (e.0, target_first e es i ∙ ap (λ b. cond b (Some e.0) (target_at es i)) y)
    go false y r = (r.0, target_first e es i ∙ ap (λ b. cond b (Some e.0) (target_at es i)) y ∙ r.1)

-- a target is at its index
pub named_at : {X : Type 0} (names : List (X × ℕ)) (t : X) (i : ℕ) → IsOneToOne names → IsNamed t i names → target_at names i ≡ Some t
named_at names t i one h =
    let s = some_target names t i h in
    s.1 ∙ ap Some (one s.0 t i (at_named names i s.0 s.1) h)

-- ---- the indexes by their targets
module _ {X : Type 0} (cmp : X → X → Ordering) (o : IsTotalOrder cmp) (same : (x y : X) → cmp x y ≡ Equal → x ≡ y) where
  -- what is named has an index
  pub some_index : (names : List (X × ℕ)) (t : X) (i : ℕ) → IsNamed t i names → (j : ℕ) × (index_in cmp names t ≡ Some j)
  some_index [] t i h = elim h [ ]
  some_index (e ∷ es) t i (inl h) =
      let k : is_eq (cmp t e.0) ≡ true = ap (λ (x : X × ℕ). is_eq (cmp t x.0)) h ∙ ap is_eq (tied_itself o t) in
      (e.1, ap (λ b. cond b (Some e.1) (index_in cmp es t)) k)
  some_index (e ∷ es) t i (inr h) = go (is_eq (cmp t e.0)) refl (some_index es t i h)
    where
      go : (b : Bool) → is_eq (cmp t e.0) ≡ b → (j : ℕ) × (index_in cmp es t ≡ Some j) → (j : ℕ) × (index_in cmp (e ∷ es) t ≡ Some j)
      go true y r = (e.1, ap (λ b. cond b (Some e.1) (index_in cmp es t)) y)
      go false y r = (r.0, ap (λ b. cond b (Some e.1) (index_in cmp es t)) y ∙ r.1)

  place_of : (names : List (X × ℕ)) (t : X) (i : ℕ) → IsNamed t i names → (p : ℕ) × (slice_get names p ≡ Some (t, i))
  place_of [] t i h = elim h [ ]
  place_of (e ∷ es) t i (inl h) = (0, ap Some h)
  place_of (e ∷ es) t i (inr h) = let r = place_of es t i h in (suc r.0, r.1)

  -- where the targets ascend, the index of a target is that which it is named with
  pub only_index : (names : List (X × ℕ)) (t : X) (i : ℕ) → IsStrictlySortedBy cmp (keys_of names) → IsNamed t i names → index_in cmp names t ≡ Some i
  only_index names t i up h =
      let p = place_of names t i h in
      hit cmp o same names t p.0 (t, i) up p.1 (tied_itself o t)

  -- a target of the version before keeps its index
  pub kept_index : (before : List (X × ℕ)) (live : List X) (u : List ℕ) (t : X) (j k : ℕ) → IsNamed t j (named cmp before live u) → index_in cmp before t ≡ Some k → j ≡ k
  kept_index before [] u t j k h is = elim h [ ]
  kept_index before (s ∷ ss) u t j k h is = go (index_in cmp before s) refl (λ v. kept_index before ss v t j k) h
    where
      go : (r : Option ℕ) → index_in cmp before s ≡ r → ((v : List ℕ) → IsNamed t j (named cmp before ss v) → index_in cmp before t ≡ Some k → j ≡ k) →
          IsNamed t j (name_and s r u (named cmp before ss)) → j ≡ k
      go (Some i) r ih (inl e) =
          let a : s ≡ t = ap (λ p. p.0) e in
          let b : i ≡ j = ap (λ p. p.1) e in
          sym b ∙ same_Some i k (sym r ∙ ap (index_in cmp before) a ∙ is)
      go (Some i) r ih (inr h) = ih u h is
      go None r ih (inl e) =
          let a : s ≡ t = ap (λ p. p.0) e in
          absurd (none-some k (sym r ∙ ap (index_in cmp before) a ∙ is))
      go None r ih (inr h) = ih (least_unused u ∷ u) h is
