-- One entry more of a map: what it has at each key, and the order of the keys.
use Rattle.std.proofs.Common.{◌≡◌, List, [], ◌∷◌, Bool, true, false, cond, Some, None, refl, sym, ◌∙◌, ap}
use Rattle.std.specs.declared.cmp.Ordering.{Ordering}
use Rattle.std.specs.declared.cmp.Ordering.TheVariants.{Less, Equal, Greater}
use Rattle.std.specs.Ordering.{is_eq, match_ordering, ordering_reverse}
use Rattle.std.specs.Cmp.{IsTotalOrder}
use Rattle.std.specs.List.{AllByRecursion}
use Rattle.std.specs.List.Sorted.{IsStrictlySortedBy}
use Rattle.std.specs.Map.{lookup, keys_of}
use Rattle.std.specs.BTreeMap.{insert_entry, is_at}
use Rattle.std.proofs.lemmas.Cmp.{eq_by_cmp_equiv}
use Rattle.std.proofs.lemmas.Map.Lookups.{CmpEqualImpliesEq}
use Rattle.counted_map.proofs.CountMapLemmas.{eq_from_is_eq}

all_weaker : {K : Type 0} (P Q : K → Type 0) → ((h : K) → P h → Q h) → (hs : List K) → AllByRecursion P hs → AllByRecursion Q hs
all_weaker P Q f [] all = all
all_weaker P Q f (h ∷ hs) all = (f h all.0, all_weaker P Q f hs all.1)

module _ {K X : Type 0} (cmp : K → K → Ordering) (o : IsTotalOrder cmp) where
  all-put : (P : K → Type 0) (es : List (K × X)) (k : K) (v : X) → P k → AllByRecursion P (keys_of es) → AllByRecursion P (keys_of (insert_entry cmp es k v))
  all-put P [] k v h all = (h, all)
  all-put P (e ∷ es) k v h all =
      let ih = all-put P es k v h all.1 in
      elim (cmp k e.0) as (λ r. AllByRecursion P (keys_of (match_ordering r ((k, v) ∷ e ∷ es) ((e.0, v) ∷ es) (e ∷ insert_entry cmp es k v)))) [
        | Less ↦ (h, all)
        | Equal ↦ all
        | Greater ↦ (all.0, ih)
      ]

  -- the keys stay in order
  pub sorted-put : (es : List (K × X)) (k : K) (v : X) → IsStrictlySortedBy cmp (keys_of es) → IsStrictlySortedBy cmp (keys_of (insert_entry cmp es k v))
  unfolding IsStrictlySortedBy
  sorted-put [] k v up = (tt, tt)
  sorted-put (e ∷ es) k v up = go (cmp k e.0) refl (sorted-put es k v up.1)
    where
      go : (r : Ordering) → cmp k e.0 ≡ r → IsStrictlySortedBy cmp (keys_of (insert_entry cmp es k v)) → IsStrictlySortedBy cmp (keys_of (match_ordering r ((k, v) ∷ e ∷ es) ((e.0, v) ∷ es) (e ∷ insert_entry cmp es k v)))
      go Less h ih = ((h, all_weaker (λ x. cmp e.0 x ≡ Less) (λ x. cmp k x ≡ Less) (λ x l. o.trans k e.0 x h l) (keys_of es) up.0), up)
      go Equal h ih = up
      go Greater h ih =
          let back : cmp e.0 k ≡ Less = o.antisymm e.0 k ∙ ap ordering_reverse h in
          (all-put (λ x. cmp e.0 x ≡ Less) es k v back up.0, ih)

pub same_key : {K : Type 0} (cmp : K → K → Ordering) → CmpEqualImpliesEq cmp → (k q : K) → is_eq (cmp k q) ≡ true → k ≡ q
same_key cmp exact k q e = exact k q (eq_from_is_eq (cmp k q) e)

module _ {K X : Type 0} (cmp : K → K → Ordering) (o : IsTotalOrder cmp) (exact : CmpEqualImpliesEq cmp) where
  -- the map has the value at the key, and what it had at the others
  pub lookup-put : (m : List (K × X)) (k : K) (v : X) (q : K) → lookup (is_at (cmp q)) (insert_entry cmp m k v) ≡ cond (is_eq (cmp k q)) (Some v) (lookup (is_at (cmp q)) m)
  lookup-put [] k v q = ap (λ b. cond b (Some v) None) ((eq_by_cmp_equiv o).symm q k)
  lookup-put (e ∷ es) k v q = go (cmp k e.0) refl (lookup-put es k v q)
    where
      go : (r : Ordering) → cmp k e.0 ≡ r → lookup (is_at (cmp q)) (insert_entry cmp es k v) ≡ cond (is_eq (cmp k q)) (Some v) (lookup (is_at (cmp q)) es) → lookup (is_at (cmp q)) (match_ordering r ((k, v) ∷ e ∷ es) ((e.0, v) ∷ es) (e ∷ insert_entry cmp es k v)) ≡ cond (is_eq (cmp k q)) (Some v) (lookup (is_at (cmp q)) (e ∷ es))
      go Less h ih = ap (λ b. cond b (Some v) (lookup (is_at (cmp q)) (e ∷ es))) ((eq_by_cmp_equiv o).symm q k)
      go Equal h ih =
          let s : is_eq (cmp k q) ≡ is_eq (cmp q e.0) = (eq_by_cmp_equiv o).symm k q ∙ ap (λ x. is_eq (cmp q x)) (exact k e.0 h) in
          rw s (both (is_eq (cmp q e.0)))
        where
          both : (b : Bool) → cond b (Some v) (lookup (is_at (cmp q)) es) ≡ cond b (Some v) (cond b (Some e.1) (lookup (is_at (cmp q)) es))
          both true = refl
          both false = refl
      go Greater h ih = other (is_eq (cmp q e.0)) refl
        where
          other : (b : Bool) → is_eq (cmp q e.0) ≡ b → cond b (Some e.1) (lookup (is_at (cmp q)) (insert_entry cmp es k v)) ≡ cond (is_eq (cmp k q)) (Some v) (cond b (Some e.1) (lookup (is_at (cmp q)) es))
          other true f =
              let s : is_eq (cmp k q) ≡ false = ap (λ x. is_eq (cmp k x)) (same_key cmp exact q e.0 f) ∙ ap is_eq h in
              rw s refl
          other false f = ih
