-- A hit at the index that a version sends a lookup to is a hit at the number of the nexthop that it answers.
use Rattle.std.proofs.Common.{◌≡◌, ℕ, ◌+◌, ◌-◌, ◌<◌, ◌≤◌, true, false, true≢false, Option, Some, None, List, ◌∷◌, length, refl, sym, ◌∙◌, ap, subst, arith}
use Rattle.std.specs.Prelude.{All, IsSome, slice_get}
use Rattle.std.proofs.lemmas.Option.{none-some, same_Some, slice_get_within}
use Rattle.prefix_width.specs.Nexthop.{Hop}
use Rattle.nhgrp_slots.specs.declared.target.Target.{Target}
use Rattle.nhgrp_slots.specs.declared.target.Target.TheVariants.{One}
use Rattle.rib_store.specs.Plan.{Planned, firsts, named, number_of}
use Rattle.rib_store.proofs.LawLemmas.{numbers_lead_back}
use Rattle.plan_cut.specs.PlanCourse.{versions_of}
use Rattle.plan_cut.specs.VersionTable.{answer_at, commands_at}
use Rattle.engine_set.specs.Image.{Picture}
use Rattle.fib_sync.specs.Lawful.{IsLawful, IsSent, Names}
use Rattle.fib_sync.specs.VersionNames.{names_at, pairs_at}
use Rattle.epoch_core.specs.Step.{has_index, has_pair}
use Rattle.rib_store.specs.Weights.{IsWeighted}
use Rattle.fib_pass.specs.Lookups.{AreReads}
use Rattle.fib_pass.proofs.FreshLemmas.{hop_of_pair, number_within, pair_of_hop}
use Rattle.fib_pass.proofs.NamedTables.{answered_numbered}
use Rattle.fib_pass.proofs.PairLemmas.{pair_index}

some_value : {X : Type 0} (o : Option X) → IsSome o → (x : X) × (o ≡ Some x)
some_value None h = absurd (true≢false (sym h))
some_value (Some x) h = (x, refl)

sent_hop : {w : ℕ} (names : Names w) (i : ℕ) (o : Option Hop) → IsSent names (Some i) o → (h : Hop) × (o ≡ Some h) × (names i ≡ Some (One h))
sent_hop names i None sent = absurd sent
sent_hop names i (Some h) sent = (h, refl, sent)

same_one : {w : ℕ} (o : Option (Target w)) (h k : Hop) → o ≡ Some (One h) → o ≡ Some (One k) → h ≡ k
same_one o h k a b = let e = sym a ∙ b in cc

-- nothing is answered where nothing is sent
pub sent_none : {w : ℕ} (names : Names w) (o : Option Hop) → IsSent names None o → None ≡ o
sent_none names None sent = refl
sent_none names (Some h) sent = absurd sent

module _ {w : ℕ} (K most : ℕ) where
  -- the index that is sent to has a pair
  pub sent_index : (plan : Planned w) (v i addr flow : ℕ) → IsSent (names_at K most plan v) (Some i) (answer_at most plan v addr flow) → has_index i (pairs_at K most plan v) ≡ true
  sent_index plan v i addr flow sent =
      let hop = sent_hop (names_at K most plan v) i (answer_at most plan v addr flow) sent in
      let number = some_value (number_of plan hop.0) (answered_numbered most plan (commands_at most plan v) addr flow hop.0 hop.1) in
      pair_index i number.0 (pairs_at K most plan v) (pair_of_hop K most plan v i number.0 hop.0 hop.2 number.1)

  -- a pair's number is one of the plan's
  pub pair_within : (key plan : Planned w) (v i q : ℕ) → key ≡ plan → has_pair i q (pairs_at K most key v) ≡ true → (1 ≤ q) × (q ≤ length (firsts (named plan)))
  pair_within key plan v i q e has =
      let hop = hop_of_pair K most key v i q has in
      subst (λ x. (1 ≤ q) × (q ≤ length (firsts (named x)))) e (number_within K most key hop.0 q hop.2)

  -- the nexthop of the number that is hit is what the version answers
  pub record IsHit (plan : Planned w) (v i q addr flow : ℕ) (r : Hop) : Type 0 where
    pub right : Some r ≡ answer_at most plan v addr flow
    pub number : number_of plan r ≡ Some q
    pub named : names_at K most plan v i ≡ Some (One r)

  hits_here : (plan : Planned w) (v i q addr flow : ℕ) (r : Hop) → has_pair i q (pairs_at K most plan v) ≡ true → slice_get (firsts (named plan)) (q - 1) ≡ Some r
      → IsSent (names_at K most plan v) (Some i) (answer_at most plan v addr flow) → IsHit plan v i q addr flow r
  hits_here plan v i q addr flow r has at sent =
      let sent_to = sent_hop (names_at K most plan v) i (answer_at most plan v addr flow) sent in
      let hit = hop_of_pair K most plan v i q has in
      let one : hit.0 ≡ sent_to.0 = same_one (names_at K most plan v i) hit.0 sent_to.0 hit.1 sent_to.2 in
      let back = numbers_lead_back w plan hit.0 q hit.2 in
      let same : hit.0 ≡ r = same_Some hit.0 r (sym back.1 ∙ at) in
      record {
        right = ap (λ h. Some h) (sym same ∙ one) ∙ sym sent_to.1;
        number = ap (number_of plan) (sym same) ∙ hit.2;
        named = hit.1 ∙ ap (λ h. Some (One h)) same;
      }

  pub hits : (key plan : Planned w) (v n i q addr flow : ℕ) (r : Hop) → key ≡ plan → n ≡ v → has_pair i q (pairs_at K most key v) ≡ true → slice_get (firsts (named plan)) (q - 1) ≡ Some r
      → IsSent (names_at K most key v) (Some i) (answer_at most key v addr flow) → IsHit plan n i q addr flow r
  hits key plan v n i q addr flow r e f has at sent =
      let here = hits_here key v i q addr flow r has (subst (λ x. slice_get (firsts (named x)) (q - 1) ≡ Some r) (sym e) at) sent in
      subst (λ x. IsHit x n i q addr flow r) e (subst (λ m. IsHit key m i q addr flow r) (sym f) here)

  -- the version is one of the plan's
  pub lawful_listed : (key plan : Planned w) (v n : ℕ) (image : Picture w) → key ≡ plan → n ≡ v → IsLawful most key (names_at K most key v) v image → n < length (versions_of most plan)
  lawful_listed key plan v n image e f lawful =
      let here : v < length (versions_of most key) = slice_get_within (versions_of most key) v _ lawful.listed in
      subst (λ x. n < length (versions_of most x)) e (subst (λ m. m < length (versions_of most key)) (sym f) here)

-- what holds at the key of a seat holds at the plan that it is
pub weighted_key : {w : ℕ} (key plan : Planned w) → key ≡ plan → All IsWeighted plan.commands → All IsWeighted key.commands
weighted_key {w} key plan e all = subst (λ (x : Planned w). All IsWeighted x.commands) (sym e) all

pub moved_answer : {w : ℕ} (most : ℕ) (key plan : Planned w) (v n addr flow : ℕ) (o : Option Hop) → key ≡ plan → n ≡ v → o ≡ answer_at most key v addr flow → o ≡ answer_at most plan n addr flow
moved_answer most key plan v n addr flow o e f h = h ∙ ap (λ m. answer_at most key m addr flow) (sym f) ∙ ap (λ x. answer_at most x n addr flow) e

pub moved_reads : {w : ℕ} (K most : ℕ) (key plan : Planned w) (v n k : ℕ) → key ≡ plan → n ≡ v → AreReads K most plan n k → AreReads K most key v k
moved_reads K most key plan v n k e f reads = subst (λ x. AreReads K most x v k) (sym e) (subst (λ m. AreReads K most plan m k) f reads)
