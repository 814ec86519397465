-- What a pass's own contract says of a lookup, in terms of what the pass has done.
use Rattle.std.proofs.Common.{◌≡◌, ◌∙◌, ℕ, zero, suc, ◌+◌, ◌-◌, ◌<◌, ◌≤◌, List, ◌++◌, Option, Some, None, length, refl, ap, subst, arith}
use Rattle.std.specs.Prelude.{option_to_list}
use Rattle.std.specs.List.{filter_map, slice_get}
use Rattle.prefix_width.specs.Nexthop.{Hop}
use Rattle.rib_store.specs.Plan.{Planned, firsts, named}
use Rattle.rib_store.proofs.LawLemmas.{numbers_lead_back}
use Rattle.plan_cut.specs.PlanCourse.{course_of, versions_of}
use Rattle.plan_cut.specs.VersionTable.{answer_at}
use Rattle.plan_cut.proofs.ListingLemmas.{length-versions}
use Rattle.epoch_core.specs.SeatViews.{ReaderView}
use Rattle.fib_pass.specs.Lookups.{HitsAnswer, answered_own}
use Rattle.fib_pass.specs.Totals.{hop_of}
use Rattle.fib_pass.specs.Views.{PassView}
use Rattle.threaded_replay.specs.Tally.{Answers, tally_of}

-- the hit of an answer, as the nexthop that was hit
hop_on : {w : ℕ} (plan : Planned w) (h : Hop) (p : ℕ) → (1 ≤ p) × (slice_get (firsts (named plan)) (p - 1) ≡ Some h) → hop_of plan p ≡ Some h
hop_on plan h zero back = absurd (omega (arith, back.0))
hop_on plan h (suc p) back = let e : suc p - 1 ≡ p = omega arith in rw e at back.1

hops_on : {w : ℕ} (plan : Planned w) (nexthop : Option Hop) (before after : List ℕ) → HitsAnswer plan nexthop before after
    → filter_map (hop_of plan) after ≡ option_to_list nexthop ++ filter_map (hop_of plan) before
hops_on plan None before after same = ap (filter_map (hop_of plan)) same
hops_on {w} plan (Some h) before after (p, named, one) = rw one (rw (hop_on plan h p (numbers_lead_back w plan h p named)) refl)

pub answers : {w : ℕ} (most : ℕ) (plan : Planned w) (old new : PassView w) (addr flow version : ℕ) (nexthop : Option Hop)
    → old.seat.key ≡ plan
    → nexthop ≡ answer_at most old.seat.key version addr flow
    → version < length (versions_of most old.seat.key)
    → (old.seat.own.seen ≤ new.seat.own.last) × (new.seat.own.last ≤ version)
    → new.seat ≡ record old.seat { own = answered_own new.seat.own.last version new.seat.own.hits old.seat.own; steps = new.seat.steps }
    → new.lookups ≡ old.lookups + 1
    → HitsAnswer old.seat.key nexthop old.seat.own.hits new.seat.own.hits
    → Answers most plan (tally_of plan old) addr flow version nexthop (tally_of plan new)
answers {w} most plan old new addr flow version nexthop keyed right listed later seat lookups hits = record {
  right = right ∙ ap (λ p. answer_at most p version addr flow) keyed;
  last = omega (arith, length-versions (course_of most plan), ap (λ p. length (versions_of most p)) keyed, listed);
  later = omega (arith, later.0, later.1);
  seen = ap (λ (s : ReaderView (Planned w)). s.own.seen) seat;
  lookups = lookups;
  number = ap (λ (s : ReaderView (Planned w)). s.number) seat;
  hops = subst (λ p. filter_map (hop_of p) new.seat.own.hits ≡ option_to_list nexthop ++ filter_map (hop_of p) old.seat.own.hits) keyed
      (hops_on old.seat.key nexthop old.seat.own.hits new.seat.own.hits hits);
}
