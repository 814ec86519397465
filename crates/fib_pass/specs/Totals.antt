-- What a fib's passes come to when it is closed.
use Rattle.std.specs.Prelude.{◌≡◌, ℕ, zero, suc, ◌<◌, ◌≤◌, ◌==◌, if◌then◌else◌, List, [], ◌∷◌, length, map, Option, Some, None, slice_get}
use Rattle.std.specs.Arc.{arc_value}
use Rattle.std.specs.List.{filter_map, flat_map, fold}
use Rattle.prefix_width.specs.Nexthop.{Hop}
use Rattle.prefix_width.specs.Order.{hop_cmp}
use Rattle.rib_store.specs.Plan.{Planned, firsts, named}
use Rattle.counted_map.specs.Counts.{Counts, linked_all}
use Rattle.fib_pass.specs.declared.totals.PassEnd.{PassEnd}
use Rattle.fib_pass.specs.declared.totals.Packets.{Packets}
use Rattle.fib_pass.specs.Views.{PassView}

-- the totals of a fib: the last version, how many lookups the passes made, what each had made and seen, and the packets that
-- each nexthop answered
pub record TotalsView (w : ℕ) : Type 0 where
  pub version : ℕ
  pub lookups : ℕ
  pub passes : List PassEnd
  pub packets : List (Packets w)

-- the nexthop of a number, counted from 1
abbrev pub hop_of : {w : ℕ} → Planned w → ℕ → Option Hop
hop_of plan zero = None
hop_of plan (suc p) = slice_get (firsts (named plan)) p

-- the nexthops that a pass hit
abbrev pub hops_hit : {w : ℕ} → Planned w → PassView w → List Hop
hops_hit plan pass = filter_map (hop_of plan) pass.seat.own.hits

-- the nexthops that passes hit
abbrev pub all_hit : {w : ℕ} → Planned w → List (PassView w) → List Hop
all_hit plan passes = flat_map (hops_hit plan) passes

-- counts of nexthops as packets
abbrev pub packets_of : {w : ℕ} → Counts Hop → List (Packets w)
packets_of {w} counts = map {B = Packets w} (λ e. record { nexthop = e.0; count = e.1 }) counts

-- each nexthop that passes hit, in nexthop order, with the number of hits
abbrev pub packets_hit : {w : ℕ} → Planned w → List (PassView w) → List (Packets w)
packets_hit plan passes = packets_of (linked_all hop_cmp [] (all_hit plan passes))

-- what a pass had made and seen
abbrev pub end_of : {w : ℕ} → PassView w → PassEnd
end_of pass = record { lookups = pass.lookups; seen = pass.seat.own.seen }

-- nexthops with their numbers, each by the count of its number, and only where that is 1 or more
abbrev pub counted_hops : (ℕ → ℕ) → List (Hop × ℕ) → Counts Hop
counted_hops count [] = []
counted_hops count (e ∷ es) =
    if count e.1 == 0 then counted_hops count es else (e.0, count e.1) ∷ counted_hops count es

-- the last count that a list of numbers with counts has of a number, 0 where it has none
abbrev pub last_count : List (ℕ × ℕ) → ℕ → ℕ
last_count counts p = fold (λ n c. if c.0 == p then c.1 else n) 0 counts
