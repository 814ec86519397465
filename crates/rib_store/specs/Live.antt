-- What is live of the paths of a table: each nexthop of a path, and each group.
use Rattle.std.specs.Prelude.{List, [], ◌∷◌, ◌++◌, filter}
use Rattle.prefix_width.specs.Nexthop.{Hop}
use Rattle.prefix_width.specs.Order.{hop_cmp}
use Rattle.nhgrp_slots.specs.Order.{spread_cmp}
use Rattle.nhgrp_slots.specs.Spread.{Spread, hops, is_group}
use Rattle.counted_map.specs.Counts.{distinct}

-- the nexthops of the paths of some routes
abbrev pub hops_of : List Spread → List Hop
hops_of [] = []
hops_of (s ∷ rest) = hops s ++ hops_of rest

-- the nexthops of the paths of some routes in their order, each once
abbrev pub live_hops : List Spread → List Hop
live_hops routes = distinct hop_cmp (hops_of routes)

-- the groups among the paths of some routes in their order, each once
abbrev pub live_groups : List Spread → List Spread
live_groups routes = distinct spread_cmp (filter is_group routes)
