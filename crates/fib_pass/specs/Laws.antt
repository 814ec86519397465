-- Laws of what the versions of a plan name.
use Rattle.std.specs.Prelude.{◌≡◌, ◌↔◌, ℕ, ◌+◌, ◌≤◌, true, length, Some, IsSome}
use Rattle.prefix_width.specs.Limits.{AreBanks, last_index}
use Rattle.prefix_width.specs.Nexthop.{Hop}
use Rattle.nhgrp_slots.specs.declared.target.Target.TheVariants.{One}
use Rattle.rib_store.specs.Limits.{plan_max}
use Rattle.rib_store.specs.Plan.{Planned, firsts, named, number_of}
use Rattle.plan_cut.specs.VersionTable.{answer_at}
use Rattle.fib_sync.specs.VersionNames.{fresh_at, names_at, pairs_at}
use Rattle.epoch_core.specs.Fresh.{AreFresh, NamesFit}
use Rattle.epoch_core.specs.Step.{has_pair}

-- each version names distinct indexes, from 1 to the greatest, for numbers of the plan's nexthops; version 0 names nothing
abbrev pub NamesAreFit : ℕ → Type 0
NamesAreFit w =
    (K most : ℕ) (plan : Planned w) → AreBanks K → length (firsts (named plan)) ≤ plan_max
    → NamesFit (last_index K most) (length (firsts (named plan))) (λ v. pairs_at K most plan v)

-- the pairs of each version that the one before hadn't ascend by index, and none of the last K - 1 versions names one of
-- their indexes
abbrev pub FreshPairsAreFree : ℕ → Type 0
FreshPairsAreFree w =
    (K most : ℕ) (plan : Planned w) (v : ℕ) → AreBanks K
    → AreFresh K (λ u. pairs_at K most plan u) v (fresh_at K most plan (v + 1))

-- a version names an index for a number exactly where the index is that of the number's nexthop
abbrev pub PairsAreNumbers : ℕ → Type 0
PairsAreNumbers w =
    (K most : ℕ) (plan : Planned w) (v i p : ℕ)
    → (has_pair i p (pairs_at K most plan v) ≡ true)
    ↔ ((h : Hop) × (names_at K most plan v i ≡ Some (One h)) × (number_of plan h ≡ Some p))

-- each nexthop that a version's table answers has a number
abbrev pub AnswersHaveNumbers : ℕ → Type 0
AnswersHaveNumbers w =
    (most : ℕ) (plan : Planned w) (v addr flow : ℕ) (h : Hop) → answer_at most plan v addr flow ≡ Some h → IsSome (number_of plan h)
