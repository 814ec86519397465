-- Counts by key through one more and one less of a key, and of several. The first module is for every total
-- order of the keys, the second for one that tells all keys apart.
use Rattle.std.proofs.Common.{◌≡◌, ℕ, ◌+◌, ◌-◌, ◌<◌, ◌≤◌, ◌==◌, List, [], ◌∷◌, length, Bool, true, false, cond, Option, Some, None, refl, sym, ◌∙◌, ap, subst, arith, rules, nat_lt, add_comm}
use Rattle.std.specs.Prelude.{All, unwrap_or, IsSome, IfSome, ◌||◌}
use Rattle.std.specs.declared.cmp.Ordering.{Ordering}
use Rattle.std.specs.declared.cmp.Ordering.TheVariants.{Less, Equal, Greater}
use Rattle.std.specs.Ordering.{is_eq, match_ordering, ordering_reverse}
use Rattle.std.specs.Cmp.{IsTotalOrder}
use Rattle.std.specs.List.{AllByRecursion, list_any}
use Rattle.std.specs.List.Sorted.{IsStrictlySortedBy}
use Rattle.std.specs.Map.{lookup, remove_entry, set_value, keys_of, values_of}
use Rattle.std.specs.BTreeMap.{insert_entry, is_at}
use Rattle.std.proofs.lemmas.Bool.{eqb-true}
use Rattle.std.proofs.lemmas.Bool.Decides.{nat_tests}
use Rattle.std.proofs.lemmas.Cmp.{eq_by_cmp_equiv, tied_itself}
use Rattle.std.proofs.lemmas.Map.{lookup-set_value, lookup-remove_entry, keys-set_value, length-set_value, lookup-none}
use Rattle.std.proofs.lemmas.Map.Entries.{none_below_head, none_past_head}
use Rattle.std.proofs.lemmas.Option.{none-some, same_Some}
use Rattle.std.proofs.lemmas.Map.Keys.{IsDistinct-from_sorted, sorted_tail}
use Rattle.std.proofs.lemmas.Map.Lookups.{CmpEqualImpliesEq}
use Rattle.std.proofs.lemmas.Map.Views.{All-keys-insert_entry, All-values-insert_entry, All-map-remove_entry, All-values-set_value}
use Rattle.std.proofs.lemmas.Grind.{common_steps}
use Rattle.std.specs.BTreeSet.{insert_key}
use Rattle.std.proofs.lemmas.Map.Lookups.{btree_set_from_contains}
use Rattle.std.specs.List.{sum_by}
use Rattle.std.proofs.lemmas.List.Sums.{sum_by-cons}
use Rattle.std.proofs.lemmas.Map.Views.{IfSome-lookup_from_All}
use Rattle.std.proofs.lemmas.List.Elements.{All-head, All-tail}
use Rattle.counted_map.specs.Counts.{Counts, count_of, linked, unlinked, IsCounts, linked_all, unlinked_all, times, how_many, distinct}

all_weaker : {K : Type 0} (P Q : K → Type 0) → ((h : K) → P h → Q h) → (hs : List K) → AllByRecursion P hs → AllByRecursion Q hs
all_weaker P Q f [] all = all
all_weaker P Q f (h ∷ hs) all = (f h all.0, all_weaker P Q f hs all.1)

pub eq_from_is_eq : (r : Ordering) → is_eq r ≡ true → r ≡ Equal
eq_from_is_eq Less e = cc
eq_from_is_eq Equal e = refl
eq_from_is_eq Greater e = cc

unwrap-cond : (b : Bool) (v : ℕ) (l : Option ℕ) → unwrap_or (cond b (Some v) l) 0 ≡ cond b v (unwrap_or l 0)
unwrap-cond true v l = refl
unwrap-cond false v l = refl

some_from_count : (l : Option ℕ) → 1 ≤ unwrap_or l 0 → IsSome l
some_from_count None h = absurd (omega arith)
some_from_count (Some n) h = search rules

module _ {K : Type 0} (cmp : K → K → Ordering) (o : IsTotalOrder cmp) where
  -- the count of a key after one value is set, and after one entry is removed
  pub count-set : (m : Counts K) (k : K) (v : ℕ) (q : K) → 1 ≤ count_of cmp m k → count_of cmp (set_value (is_at (cmp k)) m v) q ≡ cond (is_eq (cmp k q)) v (count_of cmp m q)
  count-set m k v q h = ap (λ l. unwrap_or l 0) (lookup-set_value (eq_by_cmp_equiv o) (is_at (cmp k)) (λ x y. (eq_by_cmp_equiv o).congr k x y) q v m (some_from_count _ h)) ∙ unwrap-cond (is_eq (cmp k q)) v (lookup (is_at (cmp q)) m)

  none-cond : (b : Bool) (l : Option ℕ) → unwrap_or (cond b None l) 0 ≡ cond b 0 (unwrap_or l 0)
  none-cond true l = refl
  none-cond false l = refl

  pub count-remove : (m : Counts K) (k q : K) → IsCounts cmp m → count_of cmp (remove_entry (is_at (cmp k)) m) q ≡ cond (is_eq (cmp k q)) 0 (count_of cmp m q)
  count-remove m k q is = ap (λ l. unwrap_or l 0) (lookup-remove_entry (eq_by_cmp_equiv o) (is_at (cmp k)) (λ x y. (eq_by_cmp_equiv o).congr k x y) q m (IsDistinct-from_sorted cmp (keys_of m) is.order)) ∙ none-cond (is_eq (cmp k q)) (lookup (is_at (cmp q)) m)

  -- what holds of each key and of the new one, and the order of the keys, stay
  all-insert : (P : K → Type 0) (es : Counts K) (k : K) (v : ℕ) → P k → AllByRecursion P (keys_of es) → AllByRecursion P (keys_of (insert_entry cmp es k v))
  all-insert P [] k v h all = (h, all)
  all-insert P (e ∷ es) k v h all =
      let ih = all-insert P es k v h all.1 in
      elim (cmp k e.0) as (λ r. AllByRecursion P (keys_of (match_ordering r ((k, v) ∷ e ∷ es) ((e.0, v) ∷ es) (e ∷ insert_entry cmp es k v)))) [
        | Less ↦ (h, all)
        | Equal ↦ all
        | Greater ↦ (all.0, ih)
      ]

  pub sorted-insert : (es : Counts K) (k : K) (v : ℕ) → IsStrictlySortedBy cmp (keys_of es) → IsStrictlySortedBy cmp (keys_of (insert_entry cmp es k v))
  unfolding IsStrictlySortedBy
  sorted-insert [] k v up = (tt, tt)
  sorted-insert (e ∷ es) k v up = go (cmp k e.0) refl (sorted-insert es k v up.1)
    where
      go : (r : Ordering) → cmp k e.0 ≡ r → IsStrictlySortedBy cmp (keys_of (insert_entry cmp es k v)) → IsStrictlySortedBy cmp (keys_of (match_ordering r ((k, v) ∷ e ∷ es) ((e.0, v) ∷ es) (e ∷ insert_entry cmp es k v)))
      go Less h ih = ((h, all_weaker (λ x. cmp e.0 x ≡ Less) (λ x. cmp k x ≡ Less) (λ x l. o.trans k e.0 x h l) (keys_of es) up.0), up)
      go Equal h ih = up
      go Greater h ih =
          let back : cmp e.0 k ≡ Less = o.antisymm e.0 k ∙ ap ordering_reverse h in
          (all-insert (λ x. cmp e.0 x ≡ Less) es k v back up.0, ih)

  all-remove : (P : K → Type 0) (t : K → Bool) (es : Counts K) → AllByRecursion P (keys_of es) → AllByRecursion P (keys_of (remove_entry t es))
  all-remove P t [] all = all
  all-remove P t (e ∷ es) all =
      let ih = all-remove P t es all.1 in
      elim (t e.0) as (λ b. AllByRecursion P (keys_of (cond b es (e ∷ remove_entry t es)))) [ true ↦ all.1 | false ↦ (all.0, ih) ]

  pub sorted-remove : (t : K → Bool) (es : Counts K) → IsStrictlySortedBy cmp (keys_of es) → IsStrictlySortedBy cmp (keys_of (remove_entry t es))
  unfolding IsStrictlySortedBy
  sorted-remove t [] up = up
  sorted-remove t (e ∷ es) up =
      let ih = sorted-remove t es up.1 in
      let all = all-remove (λ x. cmp e.0 x ≡ Less) t es up.0 in
      elim (t e.0) as (λ b. IsStrictlySortedBy cmp (keys_of (cond b es (e ∷ remove_entry t es)))) [ true ↦ up.1 | false ↦ (all, ih) ]

  -- counts stay counts
  pub set-counts : (m : Counts K) (k : K) (v : ℕ) → 1 ≤ v → IsCounts cmp m → IsCounts cmp (set_value (is_at (cmp k)) m v)
  set-counts m k v p is = record {
    order = subst (IsStrictlySortedBy cmp) (sym (keys-set_value (is_at (cmp k)) m v)) is.order;
    some = All-values-set_value (is_at (cmp k)) (λ n. 1 ≤ n) m v is.some p;
  }

  pub insert-counts : (m : Counts K) (k : K) → IsCounts cmp m → IsCounts cmp (insert_entry cmp m k 1)
  insert-counts m k is = record { order = sorted-insert m k 1 is.order; some = All-values-insert_entry cmp k 1 (λ n. 1 ≤ n) m is.some (omega arith) }

  pub remove-counts : (m : Counts K) (k : K) → IsCounts cmp m → IsCounts cmp (remove_entry (is_at (cmp k)) m)
  remove-counts m k is = record { order = sorted-remove (is_at (cmp k)) m is.order; some = All-map-remove_entry (is_at (cmp k)) (λ e. e.1) (λ n. 1 ≤ n) m is.some }

  pub IsCounts-linked : (m : Counts K) (k : K) → IsCounts cmp m → IsCounts cmp (linked cmp m k)
  IsCounts-linked m k is =
      let inserted = insert-counts m k is in
      let changed = set-counts m k (count_of cmp m k + 1) (omega arith) is in
      elim (count_of cmp m k == 0) as (λ b. IsCounts cmp (cond b (insert_entry cmp m k 1) (set_value (is_at (cmp k)) m (count_of cmp m k + 1)))) [ true ↦ inserted | false ↦ changed ]

  pub IsCounts-unlinked : (m : Counts K) (k : K) → IsCounts cmp m → 1 ≤ count_of cmp m k → IsCounts cmp (unlinked cmp m k)
  IsCounts-unlinked m k is p = go (count_of cmp m k == 1) refl
    where
      go : (b : Bool) → (count_of cmp m k == 1) ≡ b → IsCounts cmp (cond b (remove_entry (is_at (cmp k)) m) (set_value (is_at (cmp k)) m (count_of cmp m k - 1)))
      go true e = remove-counts m k is
      go false e = set-counts m k (count_of cmp m k - 1) (grind (arith, nat_tests)) is

  -- how many entries there are
  pub length-insert : {X : Type 0} (m : List (K × X)) (k : K) (v : X) → lookup (is_at (cmp k)) m ≡ None → length (insert_entry cmp m k v) ≡ length m + 1
  length-insert [] k v h = grind (arith, common_steps)
  length-insert (e ∷ es) k v h = go (cmp k e.0) refl h (length-insert es k v)
    where
      go : (r : Ordering) → cmp k e.0 ≡ r → cond (is_eq r) (Some e.1) (lookup (is_at (cmp k)) es) ≡ None → (lookup (is_at (cmp k)) es ≡ None → length (insert_entry cmp es k v) ≡ length es + 1) → length (match_ordering r ((k, v) ∷ e ∷ es) ((e.0, v) ∷ es) (e ∷ insert_entry cmp es k v)) ≡ length (e ∷ es) + 1
      go Less f h ih = grind (arith, common_steps)
      go Equal f h ih = cc
      go Greater f h ih = let i = ih h in grind (arith, common_steps)

  length-remove : (t : K → Bool) (m : Counts K) → IsSome (lookup t m) → length (remove_entry t m) + 1 ≡ length m
  length-remove t [] h = cc
  length-remove t (e ∷ es) h = go (t e.0) h (length-remove t es)
    where
      go : (b : Bool) → IsSome (cond b (Some e.1) (lookup t es)) → (IsSome (lookup t es) → length (remove_entry t es) + 1 ≡ length es) → length (cond b es (e ∷ remove_entry t es)) + 1 ≡ length (e ∷ es)
      go true h ih = grind (arith, common_steps)
      go false h ih = let i = ih h in grind (arith, common_steps)

  pub lookup_none : (m : Counts K) (k : K) → IsCounts cmp m → count_of cmp m k ≡ 0 → lookup (is_at (cmp k)) m ≡ None
  lookup_none m k is e = by_all (lookup (is_at (cmp k)) m) (IfSome-lookup_from_All (λ n. 1 ≤ n) (is_at (cmp k)) m is.some) e
    where
      by_all : (l : Option ℕ) → IfSome l (λ n. 1 ≤ n) → unwrap_or l 0 ≡ 0 → l ≡ None
      by_all None h e = refl
      by_all (Some n) h e = absurd (omega arith)

  pub length-linked : (m : Counts K) (k : K) → IsCounts cmp m → length (linked cmp m k) ≡ length m + cond (count_of cmp m k == 0) 1 0
  length-linked m k is = go (count_of cmp m k == 0) refl
    where
      go : (b : Bool) → (count_of cmp m k == 0) ≡ b → length (cond b (insert_entry cmp m k 1) (set_value (is_at (cmp k)) m (count_of cmp m k + 1))) ≡ length m + cond b 1 0
      go true e = length-insert m k 1 (lookup_none m k is (eqb-true _ _ e))
      go false e = let l = length-set_value (is_at (cmp k)) m (count_of cmp m k + 1) in omega arith

  pub length-unlinked : (m : Counts K) (k : K) → 1 ≤ count_of cmp m k → length (unlinked cmp m k) + cond (count_of cmp m k == 1) 1 0 ≡ length m
  length-unlinked m k p = go (count_of cmp m k == 1) refl
    where
      go : (b : Bool) → (count_of cmp m k == 1) ≡ b → length (cond b (remove_entry (is_at (cmp k)) m) (set_value (is_at (cmp k)) m (count_of cmp m k - 1))) + cond b 1 0 ≡ length m
      go true e = length-remove (is_at (cmp k)) m (some_from_count _ p)
      go false e = let l = length-set_value (is_at (cmp k)) m (count_of cmp m k - 1) in omega arith

  pub IsCounts-linked_all : (m : Counts K) (ks : List K) → IsCounts cmp m → IsCounts cmp (linked_all cmp m ks)
  IsCounts-linked_all m [] is = is
  IsCounts-linked_all m (k ∷ ks) is = IsCounts-linked_all (linked cmp m k) ks (IsCounts-linked m k is)

  one_at : (k : K) → is_eq (cmp k k) ≡ true
  one_at k = ap is_eq (tied_itself o k)

  pub first_there : (m : Counts K) (k : K) (ks : List K) → ((q : K) → times cmp q (k ∷ ks) ≤ count_of cmp m q) → 1 ≤ count_of cmp m k
  first_there m k ks h =
      let n : ℕ = count_of cmp m k in
      let l : cond true 1 0 + times cmp k ks ≤ n = subst (λ b. cond b 1 0 + times cmp k ks ≤ n) (one_at k) (h k) in
      omega arith

  -- how many of the keys pass, where the tests agree on each key after k
  how_many_after : (f g : K → Bool) (k : K) (ks : List K) → ((x : K) → cmp k x ≡ Less → f x ≡ g x) → AllByRecursion (λ x. cmp k x ≡ Less) ks → how_many f ks ≡ how_many g ks
  how_many_after f g k [] h all = refl
  how_many_after f g k (x ∷ xs) h all =
      let ih = how_many_after f g k xs h all.1 in
      let e = h x all.0 in
      rw (e, ih) refl

  apart_from_less : (k x : K) → cmp k x ≡ Less → is_eq (cmp x k) ≡ false
  apart_from_less k x h = (eq_by_cmp_equiv o).symm x k ∙ ap is_eq h

  -- a key is among the keys where its count is not 0
  any-keys : (m : Counts K) (q : K) → All (λ n. 1 ≤ n) (values_of m) → list_any (is_at (cmp q)) (keys_of m) ≡ nat_lt 0 (count_of cmp m q)
  any-keys [] q all = refl
  any-keys (e ∷ es) q all =
      let ih = any-keys es q (All-tail (λ n. 1 ≤ n) e.1 (values_of es) all) in
      let p = All-head (λ n. 1 ≤ n) e.1 (values_of es) all in
      elim (is_eq (cmp q e.0)) as (λ b. (b || list_any (is_at (cmp q)) (keys_of es)) ≡ nat_lt 0 (unwrap_or (cond b (Some e.1) (lookup (is_at (cmp q)) es)) 0)) [
        | true ↦ grind (arith, nat_tests)
        | false ↦ ih
      ]

  -- the keys of a list in their order, each once
  all-key : (P : K → Type 0) (ks : List K) (k : K) → P k → AllByRecursion P ks → AllByRecursion P (insert_key cmp ks k)
  all-key P [] k h all = (h, all)
  all-key P (x ∷ xs) k h all =
      let ih = all-key P xs k h all.1 in
      elim (cmp k x) as (λ r. AllByRecursion P (match_ordering r (k ∷ x ∷ xs) (x ∷ xs) (x ∷ insert_key cmp xs k))) [
        | Less ↦ (h, all)
        | Equal ↦ all
        | Greater ↦ (all.0, ih)
      ]

  sorted-key : (ks : List K) (k : K) → IsStrictlySortedBy cmp ks → IsStrictlySortedBy cmp (insert_key cmp ks k)
  unfolding IsStrictlySortedBy
  sorted-key [] k up = (tt, tt)
  sorted-key (x ∷ xs) k up = go (cmp k x) refl (sorted-key xs k up.1)
    where
      go : (r : Ordering) → cmp k x ≡ r → IsStrictlySortedBy cmp (insert_key cmp xs k) → IsStrictlySortedBy cmp (match_ordering r (k ∷ x ∷ xs) (x ∷ xs) (x ∷ insert_key cmp xs k))
      go Less h ih = ((h, all_weaker (λ y. cmp x y ≡ Less) (λ y. cmp k y ≡ Less) (λ y l. o.trans k x y h l) xs up.0), up)
      go Equal h ih = up
      go Greater h ih =
          let back : cmp x k ≡ Less = o.antisymm x k ∙ ap ordering_reverse h in
          (all-key (λ y. cmp x y ≡ Less) xs k back up.0, ih)

  pub sorted-distinct : (xs : List K) → IsStrictlySortedBy cmp (distinct cmp xs)
  unfolding IsStrictlySortedBy
  sorted-distinct [] = tt
  sorted-distinct (x ∷ xs) = sorted-key (distinct cmp xs) x (sorted-distinct xs)

  length-insert-le : (m : Counts K) (k : K) (v : ℕ) → length (insert_entry cmp m k v) ≤ length m + 1
  length-insert-le [] k v = omega arith
  length-insert-le (e ∷ es) k v =
      let ih = length-insert-le es k v in
      elim (cmp k e.0) as (λ r. length (match_ordering r ((k, v) ∷ e ∷ es) ((e.0, v) ∷ es) (e ∷ insert_entry cmp es k v)) ≤ length (e ∷ es) + 1) [
        | Less ↦ omega arith
        | Equal ↦ omega arith
        | Greater ↦ omega arith
      ]

  length-remove-le : (t : K → Bool) (m : Counts K) → length (remove_entry t m) ≤ length m
  length-remove-le t [] = omega arith
  length-remove-le t (e ∷ es) =
      let ih = length-remove-le t es in
      elim (t e.0) as (λ b. length (cond b es (e ∷ remove_entry t es)) ≤ length (e ∷ es)) [ true ↦ omega arith | false ↦ omega arith ]

  -- what a map of counts keeps: its entries are counts, and fewer than 2 ^ 32
  pub insert_ok : (m n : Counts K) (k : K) → n ≡ insert_entry cmp m k 1 → IsCounts cmp m → length m < 4294967295 → IsCounts cmp n × (length n < 4294967296)
  insert_ok m n k e is h = subst (λ x. IsCounts cmp x × (length x < 4294967296)) (sym e) (insert-counts m k is, let l = length-insert-le m k 1 in omega arith)

  pub remove_ok : (m n : Counts K) (k : K) → n ≡ remove_entry (is_at (cmp k)) m → IsCounts cmp m → length m < 4294967296 → IsCounts cmp n × (length n < 4294967296)
  remove_ok m n k e is h = subst (λ x. IsCounts cmp x × (length x < 4294967296)) (sym e) (remove-counts m k is, let l = length-remove-le (is_at (cmp k)) m in omega arith)

  -- where one use is left, one less removes the entry
  pub last_unlinked : (m : Counts K) (k : K) → count_of cmp m k ≡ 1 → remove_entry (is_at (cmp k)) m ≡ unlinked cmp m k
  last_unlinked m k e = sym (ap (λ (n : ℕ). cond (n == 1) (remove_entry (is_at (cmp k)) m) (set_value (is_at (cmp k)) m (count_of cmp m k - 1))) e)

  pub set_ok : (m n : Counts K) (k : K) (v : ℕ) → n ≡ set_value (is_at (cmp k)) m v → 1 ≤ v → IsCounts cmp m → length m < 4294967296 → IsCounts cmp n × (length n < 4294967296)
  set_ok m n k v e p is h = subst (λ x. IsCounts cmp x × (length x < 4294967296)) (sym e) (set-counts m k v p is, let l = length-set_value (is_at (cmp k)) m v in omega arith)

  -- sums over the keys
  sum-insert : (f : K → ℕ) (m : Counts K) (k : K) (v : ℕ) → lookup (is_at (cmp k)) m ≡ None → sum_by f (keys_of (insert_entry cmp m k v)) ≡ sum_by f (keys_of m) + f k
  sum-insert f [] k v h = sum_by-cons f k [] ∙ add_comm (f k) 0
  sum-insert f (e ∷ es) k v h = go (cmp k e.0) refl h (sum-insert f es k v)
    where
      go : (r : Ordering) → cmp k e.0 ≡ r → cond (is_eq r) (Some e.1) (lookup (is_at (cmp k)) es) ≡ None → (lookup (is_at (cmp k)) es ≡ None → sum_by f (keys_of (insert_entry cmp es k v)) ≡ sum_by f (keys_of es) + f k) → sum_by f (keys_of (match_ordering r ((k, v) ∷ e ∷ es) ((e.0, v) ∷ es) (e ∷ insert_entry cmp es k v))) ≡ sum_by f (keys_of (e ∷ es)) + f k
      go Less g h ih = let s = sum_by-cons f k (keys_of (e ∷ es)) in omega arith
      go Equal g h ih = absurd cc
      go Greater g h ih =
          let i = ih h in
          let s = sum_by-cons f e.0 (keys_of (insert_entry cmp es k v)) in
          let t = sum_by-cons f e.0 (keys_of es) in
          omega arith

  pub sum-linked : (f : K → ℕ) (m : Counts K) (k : K) → IsCounts cmp m → sum_by f (keys_of (linked cmp m k)) ≡ sum_by f (keys_of m) + cond (count_of cmp m k == 0) (f k) 0
  sum-linked f m k is = go (count_of cmp m k == 0) refl
    where
      go : (b : Bool) → (count_of cmp m k == 0) ≡ b → sum_by f (keys_of (cond b (insert_entry cmp m k 1) (set_value (is_at (cmp k)) m (count_of cmp m k + 1)))) ≡ sum_by f (keys_of m) + cond b (f k) 0
      go true e = sum-insert f m k 1 (lookup_none m k is (eqb-true _ _ e))
      go false e = let s = ap (sum_by f) (keys-set_value (is_at (cmp k)) m (count_of cmp m k + 1)) in omega arith

  -- an entry is found where its key's count is not 0
  lookup_from_count : (m : Counts K) (k : K) → IsCounts cmp m → lookup (is_at (cmp k)) m ≡ cond (count_of cmp m k == 0) None (Some (count_of cmp m k))
  lookup_from_count m k is = by_all (lookup (is_at (cmp k)) m) (IfSome-lookup_from_All (λ n. 1 ≤ n) (is_at (cmp k)) m is.some)
    where
      by_all : (l : Option ℕ) → IfSome l (λ n. 1 ≤ n) → l ≡ cond (unwrap_or l 0 == 0) None (Some (unwrap_or l 0))
      by_all None h = refl
      by_all (Some n) h = pick (n == 0) refl
        where
          pick : (b : Bool) → (n == 0) ≡ b → Some n ≡ cond b None (Some n)
          pick true e = let z = eqb-true n 0 e in absurd (omega arith)
          pick false e = refl

  head_found : (e : K × ℕ) (es : Counts K) → lookup (is_at (cmp e.0)) (e ∷ es) ≡ Some e.1
  head_found e es = ap (λ b. cond b (Some e.1) (lookup (is_at (cmp e.0)) es)) (one_at e.0)

  below_none : (e f : K × ℕ) (fs : Counts K) → IsStrictlySortedBy cmp (keys_of (f ∷ fs)) → cmp e.0 f.0 ≡ Less → lookup (is_at (cmp e.0)) (f ∷ fs) ≡ None
  below_none e f fs up h = lookup-none (is_at (cmp e.0)) (f ∷ fs) (none_below_head o e.0 f fs up h)

  past_none : (q : K) (e : K × ℕ) (es : Counts K) → IsStrictlySortedBy cmp (keys_of (e ∷ es)) → is_eq (cmp q e.0) ≡ true → lookup (is_at (cmp q)) es ≡ None
  past_none q e es up h = lookup-none (is_at (cmp q)) es (none_past_head (eq_by_cmp_equiv o) q e es (IsDistinct-from_sorted cmp (keys_of (e ∷ es)) up) h)

  -- what holds of each key, and of the linked one, holds of each key after
  pub all_keys-linked : (P : K → Type 0) (m : Counts K) (k : K) → P k → All P (keys_of m) → All P (keys_of (linked cmp m k))
  all_keys-linked P m k h all =
      let inserted = All-keys-insert_entry cmp k 1 P m all h in
      let changed = subst (All P) (sym (keys-set_value (is_at (cmp k)) m (count_of cmp m k + 1))) all in
      elim (count_of cmp m k == 0) as (λ b. All P (keys_of (cond b (insert_entry cmp m k 1) (set_value (is_at (cmp k)) m (count_of cmp m k + 1))))) [ true ↦ inserted | false ↦ changed ]

  pub all_keys-unlinked : (P : K → Type 0) (m : Counts K) (k : K) → All P (keys_of m) → All P (keys_of (unlinked cmp m k))
  all_keys-unlinked P m k all =
      let removed = All-map-remove_entry (is_at (cmp k)) (λ e. e.0) P m all in
      let changed = subst (All P) (sym (keys-set_value (is_at (cmp k)) m (count_of cmp m k - 1))) all in
      elim (count_of cmp m k == 1) as (λ b. All P (keys_of (cond b (remove_entry (is_at (cmp k)) m) (set_value (is_at (cmp k)) m (count_of cmp m k - 1))))) [ true ↦ removed | false ↦ changed ]

module _ {K : Type 0} (cmp : K → K → Ordering) (o : IsTotalOrder cmp) (exact : CmpEqualImpliesEq cmp) where
  same_key : (k q : K) → is_eq (cmp k q) ≡ true → k ≡ q
  same_key k q e = exact k q (eq_from_is_eq (cmp k q) e)

  lookup-insert_entry : (m : Counts K) (k : K) (v : ℕ) (q : K) → lookup (is_at (cmp q)) (insert_entry cmp m k v) ≡ cond (is_eq (cmp k q)) (Some v) (lookup (is_at (cmp q)) m)
  lookup-insert_entry [] k v q = ap (λ b. cond b (Some v) None) ((eq_by_cmp_equiv o).symm q k)
  lookup-insert_entry (e ∷ es) k v q = go (cmp k e.0) refl (lookup-insert_entry es k v q)
    where
      go : (r : Ordering) → cmp k e.0 ≡ r → lookup (is_at (cmp q)) (insert_entry cmp es k v) ≡ cond (is_eq (cmp k q)) (Some v) (lookup (is_at (cmp q)) es) → lookup (is_at (cmp q)) (match_ordering r ((k, v) ∷ e ∷ es) ((e.0, v) ∷ es) (e ∷ insert_entry cmp es k v)) ≡ cond (is_eq (cmp k q)) (Some v) (lookup (is_at (cmp q)) (e ∷ es))
      go Less h ih = ap (λ b. cond b (Some v) (lookup (is_at (cmp q)) (e ∷ es))) ((eq_by_cmp_equiv o).symm q k)
      go Equal h ih =
          let s : is_eq (cmp k q) ≡ is_eq (cmp q e.0) = (eq_by_cmp_equiv o).symm k q ∙ ap (λ x. is_eq (cmp q x)) (exact k e.0 h) in
          rw s (both (is_eq (cmp q e.0)))
        where
          both : (b : Bool) → cond b (Some v) (lookup (is_at (cmp q)) es) ≡ cond b (Some v) (cond b (Some e.1) (lookup (is_at (cmp q)) es))
          both true = refl
          both false = refl
      go Greater h ih = other (is_eq (cmp q e.0)) refl
        where
          other : (b : Bool) → is_eq (cmp q e.0) ≡ b → cond b (Some e.1) (lookup (is_at (cmp q)) (insert_entry cmp es k v)) ≡ cond (is_eq (cmp k q)) (Some v) (cond b (Some e.1) (lookup (is_at (cmp q)) es))
          other true f =
              let s : is_eq (cmp k q) ≡ false = ap (λ x. is_eq (cmp k x)) (same_key q e.0 f) ∙ ap is_eq h in
              rw s refl
          other false f = ih

  pub count-insert : (m : Counts K) (k : K) (v : ℕ) (q : K) → count_of cmp (insert_entry cmp m k v) q ≡ cond (is_eq (cmp k q)) v (count_of cmp m q)
  count-insert m k v q = ap (λ l. unwrap_or l 0) (lookup-insert_entry m k v q) ∙ unwrap-cond (is_eq (cmp k q)) v (lookup (is_at (cmp q)) m)

  pub count-linked : (m : Counts K) (k q : K) → count_of cmp (linked cmp m k) q ≡ count_of cmp m q + cond (is_eq (cmp k q)) 1 0
  count-linked m k q = go (count_of cmp m k == 0) refl (is_eq (cmp k q)) refl
    where
      go : (b : Bool) → (count_of cmp m k == 0) ≡ b → (d : Bool) → is_eq (cmp k q) ≡ d → count_of cmp (cond b (insert_entry cmp m k 1) (set_value (is_at (cmp k)) m (count_of cmp m k + 1))) q ≡ count_of cmp m q + cond d 1 0
      go true e true f =
          let n = eqb-true _ _ e in
          let s : count_of cmp m k ≡ count_of cmp m q = ap (count_of cmp m) (same_key k q f) in
          let c = count-insert m k 1 q ∙ ap (λ b. cond b 1 (count_of cmp m q)) f in
          omega arith
      go true e false f =
          let c = count-insert m k 1 q ∙ ap (λ b. cond b 1 (count_of cmp m q)) f in
          omega arith
      go false e true f =
          let p : 1 ≤ count_of cmp m k = grind (arith, nat_tests) in
          let s : count_of cmp m k ≡ count_of cmp m q = ap (count_of cmp m) (same_key k q f) in
          let c = count-set cmp o m k (count_of cmp m k + 1) q p ∙ ap (λ b. cond b (count_of cmp m k + 1) (count_of cmp m q)) f in
          omega arith
      go false e false f =
          let p : 1 ≤ count_of cmp m k = grind (arith, nat_tests) in
          let c = count-set cmp o m k (count_of cmp m k + 1) q p ∙ ap (λ b. cond b (count_of cmp m k + 1) (count_of cmp m q)) f in
          omega arith

  pub count-unlinked : (m : Counts K) (k q : K) → IsCounts cmp m → 1 ≤ count_of cmp m k → count_of cmp (unlinked cmp m k) q + cond (is_eq (cmp k q)) 1 0 ≡ count_of cmp m q
  count-unlinked m k q is p = go (count_of cmp m k == 1) refl (is_eq (cmp k q)) refl
    where
      go : (b : Bool) → (count_of cmp m k == 1) ≡ b → (d : Bool) → is_eq (cmp k q) ≡ d → count_of cmp (cond b (remove_entry (is_at (cmp k)) m) (set_value (is_at (cmp k)) m (count_of cmp m k - 1))) q + cond d 1 0 ≡ count_of cmp m q
      go true e true f =
          let n = eqb-true _ _ e in
          let s : count_of cmp m k ≡ count_of cmp m q = ap (count_of cmp m) (same_key k q f) in
          let c = count-remove cmp o m k q is ∙ ap (λ b. cond b 0 (count_of cmp m q)) f in
          omega arith
      go true e false f =
          let c = count-remove cmp o m k q is ∙ ap (λ b. cond b 0 (count_of cmp m q)) f in
          omega arith
      go false e true f =
          let s : count_of cmp m k ≡ count_of cmp m q = ap (count_of cmp m) (same_key k q f) in
          let c = count-set cmp o m k (count_of cmp m k - 1) q p ∙ ap (λ b. cond b (count_of cmp m k - 1) (count_of cmp m q)) f in
          omega arith
      go false e false f =
          let c = count-set cmp o m k (count_of cmp m k - 1) q p ∙ ap (λ b. cond b (count_of cmp m k - 1) (count_of cmp m q)) f in
          omega arith

  -- the count of a key after one more, and after one less, of another
  pub linked_at : (m : Counts K) (k q : K) → count_of cmp (linked cmp m k) q ≡ count_of cmp m q + cond (is_eq (cmp q k)) 1 0
  linked_at m k q = count-linked m k q ∙ ap (λ b. count_of cmp m q + cond b 1 0) ((eq_by_cmp_equiv o).symm k q)

  pub unlinked_at : (m : Counts K) (k q : K) → IsCounts cmp m → 1 ≤ count_of cmp m k → count_of cmp (unlinked cmp m k) q + cond (is_eq (cmp q k)) 1 0 ≡ count_of cmp m q
  unlinked_at m k q is p = ap (λ b. count_of cmp (unlinked cmp m k) q + cond b 1 0) ((eq_by_cmp_equiv o).symm q k) ∙ count-unlinked m k q is p

  -- the same of several keys
  pub linked_all_at : (m : Counts K) (ks : List K) (q : K) → count_of cmp (linked_all cmp m ks) q ≡ count_of cmp m q + times cmp q ks
  linked_all_at m [] q = omega arith
  linked_all_at m (k ∷ ks) q =
      let ih = linked_all_at (linked cmp m k) ks q in
      let s = linked_at m k q in
      omega arith

  pub rest_there : (m : Counts K) (k : K) (ks : List K) → IsCounts cmp m → ((q : K) → times cmp q (k ∷ ks) ≤ count_of cmp m q) → (q : K) → times cmp q ks ≤ count_of cmp (unlinked cmp m k) q
  rest_there m k ks is h q =
      let u = unlinked_at m k q is (first_there cmp o m k ks h) in
      let l = h q in
      omega arith

  pub unlinked_all_at : (m : Counts K) (ks : List K) → IsCounts cmp m → ((q : K) → times cmp q ks ≤ count_of cmp m q) → IsCounts cmp (unlinked_all cmp m ks) × ((q : K) → count_of cmp (unlinked_all cmp m ks) q + times cmp q ks ≡ count_of cmp m q)
  unlinked_all_at m [] is h = (is, λ q. omega arith)
  unlinked_all_at m (k ∷ ks) is h =
      let p = first_there cmp o m k ks h in
      let ih = unlinked_all_at (unlinked cmp m k) ks (IsCounts-unlinked cmp o m k is p) (rest_there m k ks is h) in
      (ih.0, λ q. let i = ih.1 q in let u = unlinked_at m k q is p in omega arith)

  pub length-linked_all : (m : Counts K) (ks : List K) → IsCounts cmp m → IsStrictlySortedBy cmp ks → length (linked_all cmp m ks) ≡ length m + how_many (λ k. count_of cmp m k == 0) ks
  unfolding IsStrictlySortedBy
  length-linked_all m [] is up = omega arith
  length-linked_all m (k ∷ ks) is up =
      let ih = length-linked_all (linked cmp m k) ks (IsCounts-linked cmp o m k is) up.1 in
      let l = length-linked cmp o m k is in
      let same = how_many_after cmp o (λ x. count_of cmp (linked cmp m k) x == 0) (λ x. count_of cmp m x == 0) k ks (λ x h. ap (λ n. n == 0) (kept x h)) up.0 in
      omega arith
    where
      kept : (x : K) → cmp k x ≡ Less → count_of cmp (linked cmp m k) x ≡ count_of cmp m x
      kept x h = let s = linked_at m k x ∙ ap (λ b. count_of cmp m x + cond b 1 0) (apart_from_less cmp o k x h) in omega arith

  pub length-unlinked_all : (m : Counts K) (ks : List K) → IsCounts cmp m → ((q : K) → times cmp q ks ≤ count_of cmp m q) → IsStrictlySortedBy cmp ks → length (unlinked_all cmp m ks) + how_many (λ k. count_of cmp m k == 1) ks ≡ length m
  unfolding IsStrictlySortedBy
  length-unlinked_all m [] is h up = omega arith
  length-unlinked_all m (k ∷ ks) is h up =
      let p = first_there cmp o m k ks h in
      let ih = length-unlinked_all (unlinked cmp m k) ks (IsCounts-unlinked cmp o m k is p) (rest_there m k ks is h) up.1 in
      let l = length-unlinked cmp o m k p in
      let same = how_many_after cmp o (λ x. count_of cmp (unlinked cmp m k) x == 1) (λ x. count_of cmp m x == 1) k ks (λ x f. ap (λ n. n == 1) (kept p x f)) up.0 in
      omega arith
    where
      kept : 1 ≤ count_of cmp m k → (x : K) → cmp k x ≡ Less → count_of cmp (unlinked cmp m k) x ≡ count_of cmp m x
      kept p x f = let s = sym (unlinked_at m k x is p) ∙ ap (λ b. count_of cmp (unlinked cmp m k) x + cond b 1 0) (apart_from_less cmp o k x f) in omega arith

  -- in a list in order each key stands at most once
  none_after : (k : K) (ks : List K) → AllByRecursion (λ x. cmp k x ≡ Less) ks → (q : K) → is_eq (cmp q k) ≡ true → (times cmp q ks ≡ 0)
  none_after k [] all q e = refl
  none_after k (x ∷ xs) all q e =
      let ih = none_after k xs all.1 q e in
      let f : is_eq (cmp q x) ≡ false = ap (λ y. is_eq (cmp y x)) (same_key q k e) ∙ ap is_eq all.0 in
      rw (f, ih) refl

  pub times_once : (ks : List K) (q : K) → IsStrictlySortedBy cmp ks → times cmp q ks ≡ cond (list_any (is_at (cmp q)) ks) 1 0
  unfolding IsStrictlySortedBy
  times_once [] q up = refl
  times_once (k ∷ ks) q up = go (is_eq (cmp q k)) refl (times_once ks q up.1)
    where
      go : (b : Bool) → is_eq (cmp q k) ≡ b → times cmp q ks ≡ cond (list_any (is_at (cmp q)) ks) 1 0 → cond b 1 0 + times cmp q ks ≡ cond (b || list_any (is_at (cmp q)) ks) 1 0
      go true e ih = let z = none_after k ks up.0 q e in omega arith
      go false e ih = omega arith

  same_keys : (xs ys : List K) → IsStrictlySortedBy cmp xs → IsStrictlySortedBy cmp ys → ((q : K) → list_any (is_at (cmp q)) xs ≡ list_any (is_at (cmp q)) ys) → xs ≡ ys
  same_keys xs ys up vp h = btree_set_from_contains o (record { keys = xs }) (record { keys = ys }) up vp h exact

  any-key : (f : K → Bool) (ks : List K) (k : K) → list_any f (insert_key cmp ks k) ≡ (f k || list_any f ks)
  any-key f [] k = refl
  any-key f (x ∷ xs) k = go (cmp k x) refl (any-key f xs k)
    where
      go : (r : Ordering) → cmp k x ≡ r → list_any f (insert_key cmp xs k) ≡ (f k || list_any f xs) → list_any f (match_ordering r (k ∷ x ∷ xs) (x ∷ xs) (x ∷ insert_key cmp xs k)) ≡ (f k || (f x || list_any f xs))
      go Less h ih = refl
      go Equal h ih =
          let e : f k ≡ f x = ap f (exact k x h) in
          rw e (twice (f x) (list_any f xs))
        where
          twice : (a b : Bool) → (a || b) ≡ (a || (a || b))
          twice true b = refl
          twice false b = refl
      go Greater h ih = ap (λ b. f x || b) ih ∙ swap (f x) (f k) (list_any f xs)
        where
          swap : (a b c : Bool) → (a || (b || c)) ≡ (b || (a || c))
          swap true true c = refl
          swap true false c = refl
          swap false true c = refl
          swap false false c = refl

  pub any-distinct : (f : K → Bool) (xs : List K) → list_any f (distinct cmp xs) ≡ list_any f xs
  any-distinct f [] = refl
  any-distinct f (x ∷ xs) = any-key f (distinct cmp xs) x ∙ ap (λ b. f x || b) (any-distinct f xs)

  -- the keys of counts are the distinct ones of what they count
  pub keys_are_distinct : (m : Counts K) (xs : List K) → IsCounts cmp m → ((q : K) → nat_lt 0 (count_of cmp m q) ≡ list_any (is_at (cmp q)) xs) → keys_of m ≡ distinct cmp xs
  keys_are_distinct m xs is h = same_keys (keys_of m) (distinct cmp xs) is.order (sorted-distinct cmp o xs) (λ q. any-keys cmp o m q is.some ∙ h q ∙ sym (any-distinct (is_at (cmp q)) xs))

  sum-remove : (f : K → ℕ) (m : Counts K) (k : K) → IsSome (lookup (is_at (cmp k)) m) → sum_by f (keys_of (remove_entry (is_at (cmp k)) m)) + f k ≡ sum_by f (keys_of m)
  sum-remove f [] k h = cc
  sum-remove f (e ∷ es) k h = go (is_eq (cmp k e.0)) refl h (sum-remove f es k)
    where
      go : (b : Bool) → is_eq (cmp k e.0) ≡ b → IsSome (cond b (Some e.1) (lookup (is_at (cmp k)) es)) → (IsSome (lookup (is_at (cmp k)) es) → sum_by f (keys_of (remove_entry (is_at (cmp k)) es)) + f k ≡ sum_by f (keys_of es)) → sum_by f (keys_of (cond b es (e ∷ remove_entry (is_at (cmp k)) es))) + f k ≡ sum_by f (keys_of (e ∷ es))
      go true g h ih =
          let t = sum_by-cons f e.0 (keys_of es) in
          let s : f k ≡ f e.0 = ap f (same_key k e.0 g) in
          omega arith
      go false g h ih =
          let i = ih h in
          let s = sum_by-cons f e.0 (keys_of (remove_entry (is_at (cmp k)) es)) in
          let t = sum_by-cons f e.0 (keys_of es) in
          omega arith

  pub sum-unlinked : (f : K → ℕ) (m : Counts K) (k : K) → 1 ≤ count_of cmp m k → sum_by f (keys_of (unlinked cmp m k)) + cond (count_of cmp m k == 1) (f k) 0 ≡ sum_by f (keys_of m)
  sum-unlinked f m k p = go (count_of cmp m k == 1) refl
    where
      go : (b : Bool) → (count_of cmp m k == 1) ≡ b → sum_by f (keys_of (cond b (remove_entry (is_at (cmp k)) m) (set_value (is_at (cmp k)) m (count_of cmp m k - 1)))) + cond b (f k) 0 ≡ sum_by f (keys_of m)
      go true e = sum-remove f m k (some_from_count _ p)
      go false e = let s = ap (sum_by f) (keys-set_value (is_at (cmp k)) m (count_of cmp m k - 1)) in omega arith

  same_entries : (es fs : Counts K) → IsStrictlySortedBy cmp (keys_of es) → IsStrictlySortedBy cmp (keys_of fs) → ((q : K) → lookup (is_at (cmp q)) es ≡ lookup (is_at (cmp q)) fs) → es ≡ fs
  same_entries [] [] up vp h = refl
  same_entries [] (f ∷ fs) up vp h = absurd (none-some f.1 (h f.0 ∙ head_found cmp o f fs))
  same_entries (e ∷ es) [] up vp h = absurd (none-some e.1 (sym (h e.0) ∙ head_found cmp o e es))
  same_entries (e ∷ es) (f ∷ fs) up vp h = go (cmp e.0 f.0) refl (same_entries es fs (sorted_tail cmp e.0 (keys_of es) up) (sorted_tail cmp f.0 (keys_of fs) vp))
    where
      go : (r : Ordering) → cmp e.0 f.0 ≡ r → (((q : K) → lookup (is_at (cmp q)) es ≡ lookup (is_at (cmp q)) fs) → es ≡ fs) → ◌≡◌ {A = Counts K} (e ∷ es) (f ∷ fs)
      go Less g ih = absurd (none-some e.1 (sym (below_none cmp o e f fs vp g) ∙ sym (h e.0) ∙ head_found cmp o e es))
      go Greater g ih =
          let back : cmp f.0 e.0 ≡ Less = o.antisymm f.0 e.0 ∙ ap ordering_reverse g in
          absurd (none-some f.1 (sym (below_none cmp o f e es up back) ∙ h f.0 ∙ head_found cmp o f fs))
      go Equal g ih =
          let k : e.0 ≡ f.0 = exact e.0 f.0 g in
          let v : e.1 ≡ f.1 = same_Some e.1 f.1 (sym (head_found cmp o e es) ∙ h e.0 ∙ ap (λ r. cond (is_eq r) (Some f.1) (lookup (is_at (cmp e.0)) fs)) g) in
          let t : es ≡ fs = ih (λ q. tails q (is_eq (cmp q e.0)) refl k) in
          λ i. (k i, v i) ∷ t i
        where
          tails : (q : K) (b : Bool) → is_eq (cmp q e.0) ≡ b → e.0 ≡ f.0 → lookup (is_at (cmp q)) es ≡ lookup (is_at (cmp q)) fs
          tails q true d k = past_none cmp o q e es up d ∙ sym (past_none cmp o q f fs vp (ap (λ x. is_eq (cmp q x)) (sym k) ∙ d))
          tails q false d k =
              let d' : is_eq (cmp q f.0) ≡ false = ap (λ x. is_eq (cmp q x)) (sym k) ∙ d in
              sym (ap (λ b. cond b (Some e.1) (lookup (is_at (cmp q)) es)) d) ∙ h q ∙ ap (λ b. cond b (Some f.1) (lookup (is_at (cmp q)) fs)) d'

  pub same_counts : (m n : Counts K) → IsCounts cmp m → IsCounts cmp n → ((q : K) → count_of cmp m q ≡ count_of cmp n q) → m ≡ n
  same_counts m n is js h = same_entries m n is.order js.order (λ q. lookup_from_count cmp o m q is ∙ ap (λ c. cond (c == 0) None (Some c)) (h q) ∙ sym (lookup_from_count cmp o n q js))
