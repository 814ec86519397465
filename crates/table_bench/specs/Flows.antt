-- Flows of a group of which a path leaves: how many went by it, and how many move.
use Rattle.std.specs.Prelude.{ℕ, zero, suc, ◌+◌, ◌%◌, Bool, false, List, [], Option, Some, slice_index_or, if◌then◌else◌}
use Rattle.std.specs.Ordering.{is_eq}
use Rattle.prefix_width.specs.Nexthop.{Hop}
use Rattle.prefix_width.specs.Path.{WeightedHop}
use Rattle.prefix_width.specs.Order.{hop_cmp}
use Rattle.nhgrp_slots.specs.Spread.{Spread, pick}
use Rattle.rib_store.specs.Table.{Table, apply}
use Rattle.rib_store.specs.declared.command.Command.TheVariants.{Add}
use Rattle.table_bench.specs.Live.{prefix_at}
use Rattle.table_bench.specs.Phases.{path_by}

-- the path of a weight by the gateway of a number
abbrev pub path_of : ℕ → ℕ → WeightedHop
path_of number weight = record (path_by number) { weight = weight }

-- the table of a profile whose one route has paths of weights 1 to 20, by the first of these numbers
unfoldable pub grouped : ℕ → ℕ → List ℕ → ℕ → Table
grouped LIVE profile drawn zero = []
grouped LIVE profile drawn (suc n) = (apply {w = 32} profile LIVE (grouped LIVE profile drawn n) (Add (prefix_at 0) (path_of n (1 + slice_index_or drawn n 0 % 20)))).table

-- whether two answers are the same nexthop
abbrev pub is_same : Option Hop → Option Hop → Bool
is_same (Some h) (Some k) = is_eq (hop_cmp h k)
is_same answer other = false

-- how many of the first flows a group sends to the nexthop
unfoldable pub flows_by : Hop → Spread → ℕ → ℕ
flows_by h group zero = 0
flows_by h group (suc n) = flows_by h group n + (if is_same (Some h) (pick group n) then 1 else 0)

-- how many of the first flows two groups send to different nexthops
unfoldable pub flows_moved : Spread → Spread → ℕ → ℕ
flows_moved old new zero = 0
flows_moved old new (suc n) = flows_moved old new n + (if is_same (pick old n) (pick new n) then 0 else 1)
