-- The live targets of a table: what its routes lead to.
use Rattle.std.specs.Prelude.{List, ◌++◌, map, All, Contains}
use Rattle.std.specs.Map.{values_of}
use Rattle.prefix_width.specs.Nexthop.{Hop}
use Rattle.nhgrp_slots.specs.Spread.{Spread, hops}
use Rattle.nhgrp_slots.specs.Target.{target_of}
use Rattle.nhgrp_slots.specs.declared.target.Target.{Target}
use Rattle.nhgrp_slots.specs.declared.target.Target.TheVariants.{One, Many}
use Rattle.rib_store.specs.Live.{live_hops, live_groups}
use Rattle.rib_store.specs.Table.{Table}

-- nexthops as targets
abbrev pub ones : {w : _} → List Hop → List (Target w)
ones {w} nexthops = map {B = Target w} (λ h. One h) nexthops

-- groups as targets
abbrev pub manies : {w : _} → List Spread → List (Target w)
manies {w} groups = map {B = Target w} (λ paths. Many paths) groups

-- nexthops, then groups
abbrev pub targets_of : {w : _} → List Hop → List Spread → List (Target w)
targets_of {w} nexthops groups = ones {w = w} nexthops ++ manies {w = w} groups

-- the live targets in target order: the distinct nexthops of all paths, then the distinct groups
abbrev pub live : {w : _} → Table → List (Target w)
live {w} rows = targets_of {w = w} (live_hops (values_of rows)) (live_groups (values_of rows))

-- each nexthop of a target is a target too: trivially where the target is one nexthop
abbrev pub HasHops : {w : _} → List (Target w) → Target w → Type 0
HasHops targets (One nexthop) = Unit {0}
HasHops targets (Many paths) = All (λ h. Contains targets (One h)) (hops paths)

-- the nexthops of each group are targets
abbrev pub AreClosed : {w : _} → List (Target w) → Type 0
AreClosed targets = All (HasHops targets) targets

-- what each route leads to is live
abbrev pub LeadToLive : {w : _} → List (Target w) → Table → Type 0
LeadToLive {w} targets rows = All (λ paths. Contains targets (target_of {w = w} paths)) (values_of rows)
