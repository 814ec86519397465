-- What contracts see of a pass, outside its epoch and inside.
use Rattle.std.specs.Prelude.{◌≡◌, ℕ, ◌≤◌, ◌<◌, List, [], length, All, Option, Some, None, slice_index_or}
use Rattle.atomic_table.specs.Seated.{TableId}
use Rattle.prefix_width.specs.Limits.{AreBanks}
use Rattle.prefix_width.specs.Nexthop.{Hop}
use Rattle.rib_store.specs.Limits.{plan_max}
use Rattle.rib_store.specs.Plan.{Planned, firsts, named, number_of}
use Rattle.rib_store.specs.Weights.{IsWeighted}
use Rattle.engine_set.specs.Image.{Picture}
use Rattle.epoch_core.specs.SeatViews.{ControlView, ReaderView, StandingView}
use Rattle.epoch_core.specs.World.{first_own}

-- a pass outside: its seat, whose key is the plan, and how many lookups it has made
pub record PassView (w : ℕ) : Type 0 where
  pub seat : ReaderView (Planned w)
  pub lookups : ℕ

-- a pass inside: its seat, the version that it has in hand with its image, and how many lookups it has made
pub record InsideView (w : ℕ) : Type 0 where
  pub standing : StandingView (Planned w) (Picture w)
  pub lookups : ℕ

-- the passes of one table are n, numbered from 0, and none has done anything
pub record AreNewPasses {w : ℕ} (table : TableId) (plan : Planned w) (n : ℕ) (passes : List (PassView w)) : Type 0 where
  pub count : length passes ≡ n
  pub new : (i : ℕ) (d : PassView w) → i < n
      → slice_index_or passes i d ≡ record { seat = record { table = table; key = plan; number = i; own = first_own; steps = [] }; lookups = 0 }

-- the number of one of the plan's nexthops
abbrev pub IsNumber : {w : ℕ} → Planned w → ℕ → Type 0
IsNumber plan p = (h : Hop) × (number_of plan h ≡ Some p)

-- what a pass keeps: its seat is for the plan, and it has made no hit but at a lookup, each at a number of the plan
pub record IsPass {w : ℕ} (plan : Planned w) (seat : ReaderView (Planned w)) (lookups : ℕ) : Type 0 where
  pub keyed : seat.key ≡ plan
  pub weighted : All IsWeighted plan.commands
  pub most : lookups ≤ 16777216
  pub few : length seat.own.hits ≤ lookups
  pub numbered : All (IsNumber plan) seat.own.hits

-- no table, for a pass whose seat is lent out
abbrev pub no_table : TableId
no_table = record { words = 0; slots = 0; views_name = 0; atom = 0; block = 0; offset = 0; slot_names = [] }

-- the seat of a pass, or one that has done nothing while it is lent out
abbrev pub seat_or_none : {w : ℕ} → Planned w → Option (ReaderView (Planned w)) → ReaderView (Planned w)
seat_or_none plan None = record { table = no_table; key = plan; number = 0; own = first_own; steps = [] }
seat_or_none plan (Some seat) = seat

-- what the publisher keeps: its seat is for the plan and counts the plan's numbers, for one reader or more
pub record IsPublisher {w : ℕ} (K : ℕ) (plan : Planned w) (seat : ControlView (Planned w)) : Type 0 where
  pub keyed : seat.key ≡ plan
  pub banks : AreBanks K
  pub some : 1 ≤ seat.own.readers
  pub numbers : seat.own.numbers ≡ length (firsts (named plan))
  pub few : seat.own.numbers ≤ plan_max
  pub room : length plan.commands ≤ plan_max

-- the pass of a seat, before its first lookup
abbrev pub new_pass : {w : ℕ} → ReaderView (Planned w) → PassView w
new_pass seat = record { seat = seat; lookups = 0 }

-- the seat is for the plan, and has made no hit
abbrev pub IsFresh : {w : ℕ} → Planned w → ReaderView (Planned w) → Type 0
IsFresh plan seat = (seat.key ≡ plan) × (seat.own.hits ≡ [])
