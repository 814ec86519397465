-- The indexes of a plan's versions: what each version names, and what the last versions name.
use Rattle.std.proofs.Common.{◌≡◌, ℕ, zero, suc, ◌+◌, ◌-◌, ◌*◌, ◌<◌, ◌≤◌, Bool, true, false, true≢false, cond, not, ◌&&◌, ◌||◌, ◌==◌, ◌⊎◌, inl, inr, List, [], ◌∷◌, Option, Some, None, length, refl, sym, ◌∙◌, ap, subst, arith, eq-eqb, add-one}
use Rattle.std.specs.Prelude.{All, slice_get}
use Rattle.std.specs.List.{filter_map, flat_map}
use Rattle.std.specs.List.Sorted.{IsStrictlySortedBy}
use Rattle.std.specs.Map.{lookup, keys_of, values_of}
use Rattle.std.specs.BTreeMap.{is_at, insert_entry}
use Rattle.std.specs.Cmp.{nat_cmp_total}
use Rattle.std.specs.Ordering.{nat_cmp, is_eq}
use Rattle.std.specs.declared.cmp.Ordering.{Ordering}
use Rattle.std.specs.declared.cmp.Ordering.TheVariants.{Less, Equal, Greater}
use Rattle.std.proofs.lemmas.Bool.{both_ways, eqb-true, false_from_ne_true, or_parts}
use Rattle.std.proofs.lemmas.Cmp.{tied_itself}
use Rattle.std.proofs.lemmas.List.Elements.{All-nil, All-cons, All-head, All-tail}
use Rattle.std.proofs.lemmas.Map.Lookups.{CmpEqualImpliesEq, exact_unsigned}
use Rattle.std.proofs.lemmas.Option.{none-some, same_Some}
use Rattle.prefix_width.specs.Limits.{AreBanks, last_index}
use Rattle.prefix_width.specs.Nexthop.{Hop}
use Rattle.nhgrp_slots.specs.Target.{target_cmp}
use Rattle.nhgrp_slots.specs.declared.target.Target.{Target}
use Rattle.nhgrp_slots.specs.declared.target.Target.TheVariants.{One, Many}
use Rattle.nhgrp_slots.proofs.TargetOrder.{target_exact}
use Rattle.nhop_index.specs.Indexes.{all_names, by_index, index_in, is_used, least_unused, name_and, named, newest, next_names, target_at, window}
use Rattle.nhop_index.specs.Laws.{IsNamed, IsOneToOne}
use Rattle.nhop_index.proofs.LawLemmas.{fit_newest}
use Rattle.nhop_index.proofs.LeastLemmas.{least_unused_is}
use Rattle.nhop_index.proofs.VersionLemmas.{found, once, used_within}
use Rattle.rib_store.specs.Plan.{Planned, number_of}
use Rattle.rib_store.specs.Table.{Table, live_count}
use Rattle.rib_store.specs.Targets.{live}
use Rattle.rib_store.proofs.LawLemmas.{live_targets_are_counted}
use Rattle.rib_store.proofs.LimitLemmas.{tables_are_within}
use Rattle.plan_cut.specs.VersionTable.{commands_at, table_at}
use Rattle.fib_sync.specs.VersionNames.{lives_to, names_at, naming_at, pair_of, pairs_at}
use Rattle.fib_pass.proofs.MapLemmas.{lookup-put, same_key, sorted-put}

-- ---- the map from indexes to targets

module _ {X : Type 0} where
  pub sorted-by_index : (names : List (X × ℕ)) → IsStrictlySortedBy nat_cmp (keys_of (by_index names))
  unfolding IsStrictlySortedBy
  sorted-by_index [] = tt
  sorted-by_index (e ∷ es) = sorted-put nat_cmp nat_cmp_total (by_index es) e.1 e.0 (sorted-by_index es)

  target_more : (e : X × ℕ) (es : List (X × ℕ)) (i : ℕ) → target_at (e ∷ es) i ≡ cond (is_eq (nat_cmp e.1 i)) (Some e.0) (target_at es i)
  target_more e es i = lookup-put nat_cmp nat_cmp_total exact_unsigned (by_index es) e.1 e.0 i

  -- the target of an index is named with it
  pub named_at : (names : List (X × ℕ)) (i : ℕ) (t : X) → target_at names i ≡ Some t → IsNamed t i names
  named_at [] i t at = absurd (none-some t at)
  named_at (e ∷ es) i t at = go (is_eq (nat_cmp e.1 i)) refl (sym (target_more e es i) ∙ at) (named_at es i t)
    where
      go : (b : Bool) → is_eq (nat_cmp e.1 i) ≡ b → cond b (Some e.0) (target_at es i) ≡ Some t → (target_at es i ≡ Some t → IsNamed t i es) → IsNamed t i (e ∷ es)
      go true f k ih =
          let a : e.0 ≡ t = same_Some e.0 t k in
          let b : e.1 ≡ i = same_key nat_cmp exact_unsigned e.1 i f in
          inl (ap (λ x. let q : X × ℕ = (x, e.1) in q) a ∙ ap (λ n. let q : X × ℕ = (t, n) in q) b)
      go false f k ih = inr (ih k)

  -- and what is named with it is its target, where each index has one
  pub at_named : (names : List (X × ℕ)) (i : ℕ) (t : X) → ((s r : X) (j : ℕ) → IsNamed s j names → IsNamed r j names → s ≡ r) → IsNamed t i names → target_at names i ≡ Some t
  at_named [] i t one h = elim h [ ]
  at_named (e ∷ es) i t one (inl h) =
      let a : e.0 ≡ t = ap (λ q. q.0) h in
      let b : e.1 ≡ i = ap (λ q. q.1) h in
      let c : is_eq (nat_cmp e.1 i) ≡ true = ap (λ n. is_eq (nat_cmp n i)) b ∙ ap is_eq (tied_itself nat_cmp_total i) in
      target_more e es i ∙ ap (λ d. cond d (Some e.0) (target_at es i)) c ∙ ap (λ x. Some x) a
  at_named (e ∷ es) i t one (inr h) = target_more e es i ∙ go (is_eq (nat_cmp e.1 i)) refl (at_named es i t (λ s r j a b. one s r j (inr a) (inr b)) h)
    where
      go : (b : Bool) → is_eq (nat_cmp e.1 i) ≡ b → target_at es i ≡ Some t → cond b (Some e.0) (target_at es i) ≡ Some t
      go true f ih =
          let b : e.1 ≡ i = same_key nat_cmp exact_unsigned e.1 i f in
          ap (λ x. Some x) (one e.0 t i (inl (ap (λ n. let q : X × ℕ = (e.0, n) in q) b)) (inr h))
      go false f ih = ih

  all_named : (P : X × ℕ → Type 0) (names : List (X × ℕ)) (t : X) (i : ℕ) → All P names → IsNamed t i names → P (t, i)
  all_named P [] t i all h = elim h [ ]
  all_named P (e ∷ es) t i all (inl h) = subst P h (All-head P e es all)
  all_named P (e ∷ es) t i all (inr h) = all_named P es t i (All-tail P e es all) h

  -- an index of the next version is of the one before, or unused
  kept_or_unused : (cmp : X → X → Ordering) → CmpEqualImpliesEq cmp → (before : List (X × ℕ)) (ts : List X) (u : List ℕ) (t : X) (i : ℕ) → IsNamed t i (named cmp before ts u) → IsNamed t i before ⊎ (is_used u i ≡ false)
  kept_or_unused cmp exact before [] u t i h = elim h [ ]
  kept_or_unused cmp exact before (s ∷ ss) u t i h = go (index_in cmp before s) refl (λ v. kept_or_unused cmp exact before ss v t i) h
    where
      go : (o : Option ℕ) → index_in cmp before s ≡ o → ((v : List ℕ) → IsNamed t i (named cmp before ss v) → IsNamed t i before ⊎ (is_used v i ≡ false)) →
          IsNamed t i (name_and s o u (named cmp before ss)) → IsNamed t i before ⊎ (is_used u i ≡ false)
      go (Some j) o ih (inl e) =
          let a : s ≡ t = ap (λ q. q.0) e in
          let b : j ≡ i = ap (λ q. q.1) e in
          inl (rw (a, b) at (found cmp exact before s j o))
      go (Some j) o ih (inr k) = ih u k
      go None o ih (inl e) =
          let b : least_unused u ≡ i = ap (λ q. q.1) e in
          inr (rw b at (least_unused_is u).free)
      go None o ih (inr k) = elim (ih (least_unused u ∷ u) k) [ inl b ↦ inl b | inr f ↦ inr (or_parts _ _ f).1 ]

-- ---- the versions of a plan

module _ {w : ℕ} (K most : ℕ) (plan : Planned w) where
  -- the indexes of version u stand d behind those of the version d after it
  pub names_back : (v d u : ℕ) → u + d ≡ v → slice_get (all_names (target_cmp {w = w}) K (lives_to most plan v)) d ≡ Some (naming_at K most plan u)
  unfolding lives_to
  names_back zero zero u e =
      let z : u ≡ 0 = omega arith in
      ap (λ n. Some (naming_at K most plan n)) (sym z)
  names_back zero (suc d) u e = absurd (omega arith)
  names_back (suc v) zero u e =
      let z : u ≡ suc v = omega arith in
      ap (λ n. Some (naming_at K most plan n)) (sym z)
  names_back (suc v) (suc d) u e = names_back v d u (omega arith)

  few_here : (v : ℕ) → length (live {w = w} (table_at most plan v)) ≤ most
  few_here v =
      let few = (tables_are_within w most plan (commands_at most plan v)).few in
      let many = live_targets_are_counted w (table_at most plan v) in
      omega arith

  few_lives : (v : ℕ) → All (λ ts. length ts ≤ most) (lives_to most plan v)
  unfolding lives_to
  few_lives zero = All-cons (λ ts. length ts ≤ most) (live {w = w} (table_at most plan 0)) [] (few_here 0) (All-nil (λ ts. length ts ≤ most))
  few_lives (suc v) = All-cons (λ ts. length ts ≤ most) (live {w = w} (table_at most plan (suc v))) (lives_to most plan v) (few_here (suc v)) (few_lives v)

  -- each index is from 1 to the greatest
  pub index_within : (v i : ℕ) (t : Target w) → 1 ≤ K → IsNamed t i (naming_at K most plan v) → (1 ≤ i) × (i ≤ last_index K most)
  index_within v i t some h =
      all_named (λ e. (1 ≤ e.1) × (e.1 ≤ last_index K most)) (naming_at K most plan v) t i
      (fit_newest {w = w} K most (lives_to most plan v) some (few_lives v) 0 (naming_at K most plan v) (names_back v 0 v (omega arith))) h

  -- and has one target
  pub one_target : (v : ℕ) → 2 ≤ K → (t s : Target w) (i : ℕ) → IsNamed t i (naming_at K most plan v) → IsNamed s i (naming_at K most plan v) → t ≡ s
  one_target v two t s i h k = once (target_cmp {w = w}) target_exact K (lives_to most plan v) t s i two h k

  -- an index of the next version is kept from the one before, or none of the last K - 1 versions has it
  pub kept_or_free : (v i : ℕ) (t : Target w) → IsNamed t i (naming_at K most plan (suc v)) → IsNamed t i (naming_at K most plan v) ⊎ ((u : ℕ) (s : Target w) → u ≤ v → v + 1 < u + K → IsNamed s i (naming_at K most plan u) → ⊥)
  unfolding lives_to
  kept_or_free v i t h =
      elim (kept_or_unused (target_cmp {w = w}) target_exact (naming_at K most plan v) (live {w = w} (table_at most plan (suc v))) (window K (all_names (target_cmp {w = w}) K (lives_to most plan v))) t i h) [
        | inl b ↦ inl b
        | inr f ↦ inr (λ u s low near k.
            both_ways _ f (used_within (target_cmp {w = w}) target_exact (K - 1) (all_names (target_cmp {w = w}) K (lives_to most plan v)) (v - u) (naming_at K most plan u) s i (omega arith) (names_back v (v - u) u (omega arith)) k))
      ]
