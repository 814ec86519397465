-- Laws of plans and of the table.
use Rattle.std.specs.Prelude.{◌≡◌, ℕ, ◌-◌, ◌≤◌, length, All, Some, slice_get}
use Rattle.std.specs.Map.{values_of}
use Rattle.prefix_width.specs.Nexthop.{Hop}
use Rattle.nhgrp_slots.specs.Spread.{IsSpread}
use Rattle.rib_store.specs.declared.command.Command.{Command}
use Rattle.rib_store.specs.Plan.{Planned, named, firsts, number_of}
use Rattle.rib_store.specs.Table.{Table, IsTable, live_count, apply, table_after}
use Rattle.rib_store.specs.Targets.{live}
use Rattle.rib_store.specs.Tried.{IsWithin, tried}
use Rattle.rib_store.specs.Weights.{IsWeighted}

-- the nexthop of a nexthop's number is that nexthop
abbrev pub NumbersLeadBack : ℕ → Type 0
NumbersLeadBack w =
    (plan : Planned w) (h : Hop) (n : ℕ) → number_of plan h ≡ Some n
    → (1 ≤ n) × (slice_get (firsts (named plan)) (n - 1) ≡ Some h)

-- two nexthops never share a number
abbrev pub NumbersDiffer : ℕ → Type 0
NumbersDiffer w =
    (plan : Planned w) (h k : Hop) (n : ℕ) → number_of plan h ≡ Some n → number_of plan k ≡ Some n → h ≡ k

-- the number of live targets is the length of their list
abbrev pub LiveTargetsAreCounted : ℕ → Type 0
LiveTargetsAreCounted w = (rows : Table) → length (live {w = w} rows) ≡ live_count rows

-- on a table within both limits `apply` is what the command does, with both limits tried behind it
abbrev pub LimitsAreTried : ℕ → Type 0
LimitsAreTried w =
    (profile live : ℕ) (rows : Table) (command : Command w) → IsWithin live rows
    → apply profile live rows command ≡ tried profile live rows command

-- every table of a plan is within both limits
abbrev pub TablesAreWithin : ℕ → Type 0
TablesAreWithin w = (live : ℕ) (plan : Planned w) (c : ℕ) → IsWithin live (table_after live plan c)

-- every table of a plan is in order, with lists of paths
abbrev pub TablesAreInOrder : ℕ → Type 0
TablesAreInOrder w = (live : ℕ) (plan : Planned w) (c : ℕ) → IsTable (table_after live plan c)

-- the paths of every row of every table of a plan have weights that their kinds may have, and a layout of their own
abbrev pub TablesAreSpread : ℕ → Type 0
TablesAreSpread w =
    (live : ℕ) (plan : Planned w) (c : ℕ) → All IsWeighted plan.commands
    → All IsSpread (values_of (table_after live plan c))
