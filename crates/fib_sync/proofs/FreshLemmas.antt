-- Which pairs of a version the version before hadn't.
use Rattle.std.proofs.Common.{◌≡◌, ◌==◌, ◌&&◌, ◌||◌, ℕ, ◌+◌, ◌≤◌, Bool, true, false, cond, not, List, [], ◌∷◌, ◌++◌, inl, inr, Option, Some, None, filter, take, length, refl, sym, ap, ◌∙◌, add-one}
use Rattle.std.specs.Prelude.{slice_get, option_map, option_to_list}
use Rattle.std.specs.BTreeMap.{is_at}
use Rattle.std.specs.List.{cons_option, filter_map, AllByRecursion}
use Rattle.std.specs.List.Sorted.{IsStrictlySortedBy}
use Rattle.std.specs.Map.{keys_of, lookup}
use Rattle.std.specs.Ordering.{nat_cmp, is_eq}
use Rattle.std.specs.declared.cmp.Ordering.TheVariants.{Less, Equal}
use Rattle.std.proofs.lemmas.List.Elements.{filter_map-append}
use Rattle.std.proofs.lemmas.Bool.{cases_Bool, eqb-true, eq-eqb, false≢true}
use Rattle.std.proofs.lemmas.Cmp.{tied_itself, nat_cmp_total}
use Rattle.std.proofs.lemmas.Map.Lookups.{exact_unsigned}
use Rattle.std.proofs.lemmas.Option.{none-some, same_Some}
use Rattle.counted_map.proofs.CountMapLemmas.{eq_from_is_eq}
use Rattle.prefix_width.specs.Nexthop.{Hop}
use Rattle.prefix_width.specs.Order.{hop_cmp}
use Rattle.prefix_width.proofs.OrderLemmas.{hop_total}
use Rattle.nhgrp_slots.specs.declared.target.Target.{Target}
use Rattle.nhgrp_slots.specs.declared.target.Target.TheVariants.{One, Many}
use Rattle.nhop_index.specs.Indexes.{by_index, target_at}
use Rattle.rib_store.specs.Plan.{Planned, number_of}
use Rattle.rib_store.proofs.LawLemmas.{numbers_differ}
use Rattle.rib_store.proofs.PlanLemmas.{one_hop}
use Rattle.fib_sync.specs.Fresh.{if_new, is_one, new_pair, new_pairs, pairs_in}
use Rattle.fib_sync.specs.VersionNames.{is_pair_in, pair_of}
use Rattle.fib_sync.proofs.EntriesLemmas.{take_all, take_at}
use Rattle.fib_sync.proofs.IndexLemmas.{by_index_sorted}

-- ---- one index more
module _ {A B : Type 0} (f : A → Option B) where
  taken : (xs : List A) (i : ℕ) (x : A) → slice_get xs i ≡ Some x → filter_map f (take (i + 1) xs) ≡ filter_map f (take i xs) ++ cons_option (f x) []
  taken xs i x at = rw add-one (ap (filter_map f) (take_at xs i x at) ∙ filter_map-append f (take i xs) (x ∷ []))

  listed : (o : Option B) → option_to_list o ≡ cons_option o []
  listed None = refl
  listed (Some y) = refl

  pub pair_more : (xs : List A) (i : ℕ) (x : A) (ys zs : List B) (o : Option B) → slice_get xs i ≡ Some x → ys ≡ filter_map f (take i xs) → o ≡ f x → zs ≡ ys ++ option_to_list o → zs ≡ filter_map f (take (i + 1) xs)
  pair_more xs i x ys zs o at before is done =
      done ∙ ap (λ l. l ++ option_to_list o) before ∙ ap (λ r. filter_map f (take i xs) ++ r) (ap (λ r. option_to_list r) is ∙ listed (f x)) ∙ sym (taken xs i x at)

-- ---- the new ones
pub news : {w : ℕ} (plan : Planned w) (before : List (Target w × ℕ)) (es : List (ℕ × Target w))
    → filter_map (new_pair plan before) es ≡ filter (λ c. not (is_pair_in c (pairs_in plan before))) (filter_map (pair_of plan) es)
news plan before [] = refl
news {w} plan before (e ∷ es) = go (pair_of plan e) (news plan before es)
  where
    test : ℕ × ℕ → Bool
    test = λ c. not (is_pair_in c (pairs_in plan before))

    A : List (ℕ × ℕ)
    A = filter_map (new_pair plan before) es

    B : List (ℕ × ℕ)
    B = filter_map (pair_of plan) es

    both : (c : ℕ × ℕ) (b : Bool) → A ≡ filter test B → cons_option (cond b None (Some c)) A ≡ cond (not b) (c ∷ filter test B) (filter test B)
    both c true ih = ih
    both c false ih = ap (λ l. c ∷ l) ih

    go : (o : Option (ℕ × ℕ)) → A ≡ filter test B → cons_option (if_new (pairs_in plan before) o) A ≡ filter test (cons_option o B)
    go None ih = ih
    go (Some c) ih = both c (is_pair_in c (pairs_in plan before)) ih

-- ---- whether a pair is there
module _ {w : ℕ} (plan : Planned w) where
  other_key : (i j k : ℕ) → i ≡ j → nat_cmp j k ≡ Less → (k == i) ≡ false
  other_key i j k same less = elim (cases_Bool (k == i)) [
    | inl y ↦
        let e : k ≡ j = eqb-true k i y ∙ same in
        let z : nat_cmp j k ≡ Equal = ap (nat_cmp j) e ∙ tied_itself nat_cmp_total j in
        (let no = sym less ∙ z in cc)
    | inr n ↦ n
  ]

  skipped : (i p k : ℕ) (t : Target w) (R : List (ℕ × ℕ)) → (k == i) ≡ false → is_pair_in (i, p) (cons_option (pair_of plan (k, t)) R) ≡ is_pair_in (i, p) R
  skipped i p k (Many paths) R off = refl
  skipped i p k (One h) R off = go (number_of plan h)
    where
      go : (o : Option ℕ) → is_pair_in (i, p) (cons_option (option_map (λ q. (k, q)) o) R) ≡ is_pair_in (i, p) R
      go None = refl
      go (Some q) = ap (λ b. (b && (q == p)) || is_pair_in (i, p) R) off

  none_above : (i j p : ℕ) (bs : List (ℕ × Target w)) → i ≡ j → AllByRecursion (λ k. nat_cmp j k ≡ Less) (keys_of bs) → is_pair_in (i, p) (filter_map (pair_of plan) bs) ≡ false
  none_above i j p [] same all = refl
  none_above i j p (b ∷ bs) same all = skipped i p b.0 b.1 (filter_map (pair_of plan) bs) (other_key i j b.0 same all.0) ∙ none_above i j p bs same all.1

  same_hop : (h k : Hop) (p q : ℕ) → number_of plan h ≡ Some p → number_of plan k ≡ Some q → (q == p) ≡ is_eq (hop_cmp k h)
  same_hop h k p q hp kq = elim (cases_Bool (is_eq (hop_cmp k h))) [
    | inl y ↦
        let e : q ≡ p = same_Some q p (sym kq ∙ ap (number_of plan) (one_hop k h y) ∙ hp) in
        eq-eqb q p e ∙ sym y
    | inr n ↦ elim (cases_Bool (q == p)) [
      | inl y ↦
          let e : k ≡ h = numbers_differ w plan k h p (kq ∙ ap Some (eqb-true q p y)) hp in
          let z : is_eq (hop_cmp k h) ≡ true = ap (λ x. is_eq (hop_cmp x h)) e ∙ ap is_eq (tied_itself hop_total h) in
          absurd (false≢true (sym n ∙ z))
      | inr off ↦ off ∙ sym n
    ]
  ]

  here : (i p k : ℕ) (h : Hop) (t : Target w) (R : List (ℕ × ℕ)) → (k == i) ≡ true → number_of plan h ≡ Some p → is_pair_in (i, p) R ≡ false → is_pair_in (i, p) (cons_option (pair_of plan (k, t)) R) ≡ is_one (let o : Option (Target w) = Some t in o) h
  here i p k h (Many paths) R on hp rest = rest
  here i p k h (One g) R on hp rest = go (number_of plan g) refl
    where
      or_false : (b : Bool) → ((true && b) || false) ≡ b
      or_false true = refl
      or_false false = refl

      go : (o : Option ℕ) → number_of plan g ≡ o → is_pair_in (i, p) (cons_option (option_map (λ q. (k, q)) o) R) ≡ is_eq (hop_cmp g h)
      go None e = elim (cases_Bool (is_eq (hop_cmp g h))) [
        | inl y ↦ absurd (none-some p (sym e ∙ ap (number_of plan) (one_hop g h y) ∙ hp))
        | inr n ↦ rest ∙ sym n
      ]
      go (Some q) e = rw (on, rest) (or_false (q == p) ∙ same_hop h g p q hp e)

  same_pair : (i p : ℕ) (h : Hop) (bs : List (ℕ × Target w)) → IsStrictlySortedBy nat_cmp (keys_of bs) → number_of plan h ≡ Some p → is_pair_in (i, p) (filter_map (pair_of plan) bs) ≡ is_one (lookup (is_at (nat_cmp i)) bs) h
  unfolding IsStrictlySortedBy
  same_pair i p h [] up hp = refl
  same_pair i p h (b ∷ bs) up hp = go (is_eq (nat_cmp i b.0)) refl (same_pair i p h bs up.1 hp)
    where
      R : List (ℕ × ℕ)
      R = filter_map (pair_of plan) bs

      go : (at : Bool) → is_eq (nat_cmp i b.0) ≡ at → is_pair_in (i, p) R ≡ is_one (lookup (is_at (nat_cmp i)) bs) h →
          is_pair_in (i, p) (cons_option (pair_of plan b) R) ≡ is_one (cond at (Some b.1) (lookup (is_at (nat_cmp i)) bs)) h
      go true y ih =
          let same : i ≡ b.0 = exact_unsigned i b.0 (eq_from_is_eq (nat_cmp i b.0) y) in
          here i p b.0 h b.1 R (eq-eqb b.0 i (sym same)) hp (none_above i b.0 p bs same up.0)
      go false y ih =
          let off : (b.0 == i) ≡ false = elim (cases_Bool (b.0 == i)) [
            | inl e ↦ (let z : is_eq (nat_cmp i b.0) ≡ true = ap (λ k. is_eq (nat_cmp i k)) (eqb-true b.0 i e) ∙ ap is_eq (tied_itself nat_cmp_total i) in absurd (false≢true (sym y ∙ z)))
            | inr n ↦ n
          ] in
          skipped i p b.0 b.1 R off ∙ ih

  -- a pair is there where the index is that of the number's nexthop
  pub pair_there : (before : List (Target w × ℕ)) (i p : ℕ) (h : Hop) → number_of plan h ≡ Some p → is_pair_in (i, p) (pairs_in plan before) ≡ is_one (target_at before i) h
  pair_there before i p h hp = same_pair i p h (by_index before) (by_index_sorted before) hp

  -- the pair of an index with its nexthop
  pub new_pair_is : (before : List (Target w × ℕ)) (i p : ℕ) (h : Hop) (b : Bool) → number_of plan h ≡ Some p → b ≡ is_one (target_at before i) h → cond b None (Some (i, p)) ≡ new_pair plan before (i, One h)
  new_pair_is before i p h b hp is =
      ap (λ c. cond c None (Some (i, p))) (is ∙ sym (pair_there before i p h hp))
      ∙ ap (λ o. if_new (pairs_in plan before) (option_map (λ q. (i, q)) o)) (sym hp)

-- all of them
pub all_pairs : {w : ℕ} (plan : Planned w) (before names : List (Target w × ℕ)) (i : ℕ) (fresh : List (ℕ × ℕ)) → length (by_index names) ≤ i → fresh ≡ filter_map (new_pair plan before) (take i (by_index names)) → fresh ≡ new_pairs plan before names
all_pairs plan before names i fresh end is = is ∙ ap (filter_map (new_pair plan before)) (take_all (by_index names) i end) ∙ news plan before (by_index names)
