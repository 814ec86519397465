-- What the versions of a plan name, and what each names anew, is what a table of epochs asks.
use Rattle.std.proofs.Common.{◌≡◌, ℕ, suc, ◌+◌, ◌-◌, ◌<◌, ◌≤◌, Bool, true, false, not, ◌&&◌, ◌⊎◌, inl, inr, List, [], ◌∷◌, Some, length, refl, sym, ◌∙◌, ap, subst, arith}
use Rattle.std.specs.Prelude.{slice_get}
use Rattle.std.specs.List.{filter_map}
use Rattle.std.proofs.lemmas.Bool.{both_ways, and_parts, false_from_ne_true, not-true}
use Rattle.std.proofs.lemmas.Option.{slice_get_within}
use Rattle.prefix_width.specs.Limits.{AreBanks, last_index}
use Rattle.prefix_width.specs.Nexthop.{Hop}
use Rattle.nhgrp_slots.specs.Target.{target_cmp}
use Rattle.nhgrp_slots.specs.declared.target.Target.TheVariants.{One}
use Rattle.nhop_index.specs.Indexes.{by_index, next_names}
use Rattle.rib_store.specs.Limits.{plan_max}
use Rattle.rib_store.specs.Plan.{Planned, firsts, named, number_of}
use Rattle.rib_store.specs.Table.{Table, table_after}
use Rattle.rib_store.specs.Targets.{live}
use Rattle.rib_store.proofs.LawLemmas.{numbers_lead_back}
use Rattle.plan_cut.specs.PlanCourse.{course_of, versions_of}
use Rattle.plan_cut.specs.VersionTable.{commands_of, table_at}
use Rattle.plan_cut.specs.Versions.{latest}
use Rattle.plan_cut.proofs.ListingLemmas.{get-versions-latest, latest-zero}
use Rattle.fib_sync.specs.VersionNames.{fresh_at, lives_to, names_at, naming_at, pair_of, pairs_at}
use Rattle.epoch_core.specs.Fresh.{AreFresh, NamesFit}
use Rattle.epoch_core.specs.Sound.{IsRecent}
use Rattle.epoch_core.specs.Step.{has_index, has_pair}
use Rattle.fib_pass.specs.Laws.{FreshPairsAreFree, NamesAreFit, PairsAreNumbers}
use Rattle.fib_pass.proofs.IndexLemmas.{at_named, index_within, kept_or_free, named_at, one_target, sorted-by_index}
use Rattle.fib_pass.proofs.PairLemmas.{ascending_distinct, ascends-filter, ascends_pairs, index_pair, lookup_pair, pair-without, pair_lookup}

-- the table of version 0 is empty
table_zero : {w : ℕ} (most : ℕ) (plan : Planned w) → table_at most plan 0 ≡ []
table_zero {w} most plan =
    let z = latest-zero (course_of most plan) in
    let n : (latest (course_of most plan) 0).number ≡ 0 = ap (λ v. v.number) z in
    let c : (latest (course_of most plan) 0).count ≡ 0 = ap (λ v. v.count) z in
    let at : slice_get (versions_of most plan) 0 ≡ Some (latest (course_of most plan) 0) =
    ap (slice_get (versions_of most plan)) (sym n) ∙ get-versions-latest (course_of most plan) 0 (omega arith) in
    ap (λ o. table_after most plan (commands_of o)) at ∙ ap (table_after most plan) c

module _ {w : ℕ} (K most : ℕ) (plan : Planned w) where
  none_first : pairs_at K most plan 0 ≡ []
  unfolding lives_to
  none_first = ap (λ (t : Table). filter_map (pair_of plan) (by_index (next_names (target_cmp {w = w}) K [] (live {w = w} t)))) (table_zero most plan)

  -- the nexthop of a pair
  pub hop_of_pair : (v i p : ℕ) → has_pair i p (pairs_at K most plan v) ≡ true → (h : Hop) × (names_at K most plan v i ≡ Some (One h)) × (number_of plan h ≡ Some p)
  hop_of_pair v i p has = pair_lookup plan (by_index (naming_at K most plan v)) i p (sorted-by_index (naming_at K most plan v)) has

  pub pair_of_hop : (v i p : ℕ) (h : Hop) → names_at K most plan v i ≡ Some (One h) → number_of plan h ≡ Some p → has_pair i p (pairs_at K most plan v) ≡ true
  pair_of_hop v i p h at n = lookup_pair plan (by_index (naming_at K most plan v)) i p h at n

  pub number_within : (h : Hop) (p : ℕ) → number_of plan h ≡ Some p → (1 ≤ p) × (p ≤ length (firsts (named plan)))
  number_within h p n =
      let back = numbers_lead_back w plan h p n in
      let some = back.0 in
      let far : p - 1 < length (firsts (named plan)) = slice_get_within (firsts (named plan)) (p - 1) h back.1 in
      (some, omega arith)

  pub names_fit : 1 ≤ K → length (firsts (named plan)) ≤ plan_max → NamesFit (last_index K most) (length (firsts (named plan))) (λ v. pairs_at K most plan v)
  names_fit some few = record {
    distinct = λ v. ascending_distinct (pairs_at K most plan v) (ascends_pairs plan (by_index (naming_at K most plan v)) (sorted-by_index (naming_at K most plan v)));
    index_fits = λ v i p has.
        let is = hop_of_pair v i p has in
        index_within K most plan v i (One is.0) some (named_at (naming_at K most plan v) i (One is.0) is.1);
    number_fits = λ v i p has. let is = hop_of_pair v i p has in number_within is.0 p is.2;
    first = none_first;
    few = few;
  }

  -- the index of a pair that is named anew is free
  free_pair : (v i p u q : ℕ) → 2 ≤ K → has_pair i p (pairs_at K most plan (suc v)) ≡ true → has_pair i p (pairs_at K most plan v) ≡ false → u ≤ v → v + 1 < u + K → has_pair i q (pairs_at K most plan u) ≡ true → ⊥
  free_pair v i p u q two new old low near has =
      let is = hop_of_pair (suc v) i p new in
      let was = hop_of_pair u i q has in
      elim (kept_or_free K most plan v i (One is.0) (named_at (naming_at K most plan (suc v)) i (One is.0) is.1)) [
        | inl b ↦ both_ways _ old (pair_of_hop v i p is.0 (at_named (naming_at K most plan v) i (One is.0) (λ s r j a c. one_target K most plan v two s r j a c) b) is.2)
        | inr f ↦ f u (One was.0) low near (named_at (naming_at K most plan u) i (One was.0) was.1)
      ]

  pub fresh_free : (v : ℕ) → 2 ≤ K → AreFresh K (λ u. pairs_at K most plan u) v (fresh_at K most plan (suc v))
  fresh_free v two = record {
    ascending = ascends-filter _ (pairs_at K most plan (suc v)) (ascends_pairs plan (by_index (naming_at K most plan (suc v))) (sorted-by_index (naming_at K most plan (suc v))));
    exactly = λ i p.
        let z : v + 1 ≡ suc v = omega arith in
        rw z (pair-without i p (pairs_at K most plan (suc v)) (pairs_at K most plan v));
    free = λ i u has near. false_from_ne_true _ (λ t.
        let new = index_pair i (fresh_at K most plan (suc v)) has in
        let old = index_pair i (pairs_at K most plan u) t in
        let both = and_parts _ _ (sym (pair-without i new.0 (pairs_at K most plan (suc v)) (pairs_at K most plan v)) ∙ new.1) in
        free_pair v i new.0 u old.0 two both.0 (not-true _ both.1) near.0 near.1 old.1);
  }

pub names_are_fit : (w : ℕ) → NamesAreFit w
names_are_fit w K most plan banks few = names_fit K most plan (omega (arith, banks.0)) few

pub fresh_pairs_are_free : (w : ℕ) → FreshPairsAreFree w
fresh_pairs_are_free w K most plan v banks =
    let z : suc v ≡ v + 1 = omega arith in
    subst (λ n. AreFresh K (λ u. pairs_at K most plan u) v (fresh_at K most plan n)) z (fresh_free K most plan v banks.0)

pub pairs_are_numbers : (w : ℕ) → PairsAreNumbers w
pairs_are_numbers w K most plan v i p = (hop_of_pair K most plan v i p, λ is. pair_of_hop K most plan v i p is.0 is.1 is.2)
