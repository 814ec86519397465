-- The packets that each nexthop got: one for each get that gave it.
use Rattle.std.specs.Prelude.{◌≡◌, List, []}
use Rattle.std.specs.Map.{keys_of}
use Rattle.prefix_width.specs.Nexthop.{Hop}
use Rattle.prefix_width.specs.Order.{hop_cmp}
use Rattle.counted_map.specs.Counts.{Counts, count_of, linked_all, times, distinct}

-- each nexthop that was given, in nexthop order, with the number of gets that gave it
abbrev pub packets_of : List Hop → Counts Hop
packets_of hops = linked_all hop_cmp [] hops

-- the same by its parts: the nexthops are those given, each once, and each number is how often it was given
abbrev pub CountsGiven : Type 0
CountsGiven =
    (hops : List Hop) → (keys_of (packets_of hops) ≡ distinct hop_cmp hops)
    × ((h : Hop) → count_of hop_cmp (packets_of hops) h ≡ times hop_cmp h hops)
