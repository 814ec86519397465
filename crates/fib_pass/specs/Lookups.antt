-- What a lookup does: the hit at the number of its nexthop, its steps, and how many reads it makes at most.
use Rattle.std.specs.Prelude.{◌≡◌, ℕ, List, ◌∷◌, Option, Some, None, slice_get}
use Rattle.prefix_width.specs.Prefix.{Block}
use Rattle.prefix_width.specs.Nexthop.{Hop}
use Rattle.nhgrp_slots.specs.declared.target.Target.TheVariants.{One}
use Rattle.rib_store.specs.Plan.{Planned, number_of}
use Rattle.plan_cut.specs.PlanCourse.{versions_of}
use Rattle.plan_cut.specs.VersionTable.{table_at}
use Rattle.plan_cut.specs.Versions.{Version}
use Rattle.engine_set.specs.Engine.{IsBound}
use Rattle.fib_sync.specs.Lawful.{AreIndexed, Names}
use Rattle.fib_sync.specs.VersionNames.{names_at}
use Rattle.epoch_core.specs.declared.event.Event.TheVariants.{Hit, Leave}
use Rattle.epoch_core.specs.declared.view.Made.{Made}
use Rattle.epoch_core.specs.declared.view.Own.{Own}
use Rattle.epoch_core.specs.History.{EnterSteps, OneMore}
use Rattle.epoch_core.specs.Step.{announced_own, entered_own, left_own, looked_own}

-- where the answer is a nexthop there is one hit more, at its number; else there is none more
abbrev pub HitsAnswer : {w : ℕ} → Planned w → Option Hop → List ℕ → List ℕ → Type 0
HitsAnswer plan None before after = after ≡ before
HitsAnswer plan (Some h) before after = (p : ℕ) × (number_of plan h ≡ Some p) × (after ≡ p ∷ before)

-- after these steps the reader made a hit on the word of the answer's index, and no step where there is no answer
abbrev pub HitStep : {w : ℕ} → Names w → ℕ → Option Hop → List Made → List Made → Type 0
HitStep names r None before after = after ≡ before
HitStep names r (Some h) before after = (i found : ℕ) × (names i ≡ Some (One h)) × OneMore before (Hit r i) found after

-- after these steps the reader looked, announced what it had found, entered at this version, made the hit and left
abbrev pub LookupSteps : {w : ℕ} → Names w → ℕ → List Made → ℕ → ℕ → Option Hop → List Made → Type 0
LookupSteps names r before found version answer after =
    (a b : List Made) × EnterSteps r before found version a × HitStep names r answer a b × OneMore b (Leave r) 0 after

-- a pass's own numbers after a lookup: it looked and found this, entered at this version and left, with these hits
abbrev pub answered_own : ℕ → ℕ → List ℕ → Own → Own
answered_own found version hits own =
    record (left_own (entered_own version (announced_own (looked_own found own)))) { hits = hits }

-- a lookup at this version makes n reads at most, by the version's module and its rows with their indexes
pub record AreReads {w : ℕ} (K most : ℕ) (plan : Planned w) (v n : ℕ) : Type 0 where
  pub version : Version
  pub listed : slice_get (versions_of most plan) v ≡ Some version
  pub rows : List (Block × ℕ)
  pub indexed : AreIndexed (names_at K most plan v) (table_at most plan v) rows
  pub bound : IsBound w version.kind rows n
