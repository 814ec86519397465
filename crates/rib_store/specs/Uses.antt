-- How often the routes of a table use each nexthop and each group.
use Rattle.std.specs.Prelude.{◌≡◌, ℕ, ◌+◌, ◌≤◌, ◌<◌, ◌==◌, List, [], length, All, not, ◌&&◌, Option, None, Some, count_by, IsTrue, if◌then◌else◌}
use Rattle.std.specs.Ordering.{is_eq}
use Rattle.std.specs.Map.{keys_of, values_of}
use Rattle.prefix_width.specs.Limits.{AreTargets}
use Rattle.prefix_width.specs.Nexthop.{Hop}
use Rattle.prefix_width.specs.Order.{hop_cmp}
use Rattle.nhgrp_slots.specs.Order.{spread_cmp}
use Rattle.nhgrp_slots.specs.Spread.{Spread, IsSpread, hops, is_group, names}
use Rattle.counted_map.specs.Counts.{Counts, count_of, linked, unlinked, linked_all, unlinked_all, times, how_many, IsCounts}
use Rattle.rib_store.specs.Limits.{routes_max}
use Rattle.rib_store.specs.Table.{Table}

-- the counts of nexthops and of groups
pub record Uses : Type 0 where
  pub nhops : Counts Hop
  pub groups : Counts Spread

-- the nexthops that gain a use with a route of these paths: none where their group is live already
abbrev pub gained : Uses → Spread → List Hop
gained u ps = if is_group ps && not (count_of spread_cmp u.groups ps == 0) then [] else hops ps

-- the nexthops that lose a use with such a route: none where another route has their group too
abbrev pub lost : Uses → Spread → List Hop
lost u ps = if is_group ps && not (count_of spread_cmp u.groups ps == 1) then [] else hops ps

-- the counts with one more route of these paths
abbrev pub with_paths : Uses → Spread → Uses
with_paths u ps = record {
  nhops = linked_all hop_cmp u.nhops (gained u ps);
  groups = if is_group ps then linked spread_cmp u.groups ps else u.groups;
}

-- the counts with one route of these paths less
abbrev pub without_paths : Uses → Spread → Uses
without_paths u ps = record {
  nhops = unlinked_all hop_cmp u.nhops (lost u ps);
  groups = if is_group ps then unlinked spread_cmp u.groups ps else u.groups;
}

-- the counts without the old route, where there is one
abbrev pub without_old : Uses → Option Spread → Uses
without_old u None = u
without_old u (Some ps) = without_paths u ps

-- how many targets are live
abbrev pub live_in : Uses → ℕ
live_in u = length u.nhops + length u.groups

-- how many targets come to life with a route of these paths
abbrev pub grown : Uses → Spread → ℕ
grown u ps =
    how_many (λ h. count_of hop_cmp u.nhops h == 0) (gained u ps)
    + (if is_group ps && (count_of spread_cmp u.groups ps == 0) then 1 else 0)

-- how many targets end with such a route
abbrev pub shrunk : Uses → Spread → ℕ
shrunk u ps =
    how_many (λ h. count_of hop_cmp u.nhops h == 1) (lost u ps)
    + (if is_group ps && (count_of spread_cmp u.groups ps == 1) then 1 else 0)

-- both are counts
pub record AreCounts (u : Uses) : Type 0 where
  pub nhops : IsCounts hop_cmp u.nhops
  pub groups : IsCounts spread_cmp u.groups

-- a route of these paths may be taken from the counts
pub record HasPaths (u : Uses) (ps : Spread) : Type 0 where
  pub nhops : (h : Hop) → times hop_cmp h (lost u ps) ≤ count_of hop_cmp u.nhops h
  pub group : IsTrue (is_group ps) → 1 ≤ count_of spread_cmp u.groups ps

-- the old route, where there is one, may be taken from the counts
abbrev pub HasOld : Uses → Option Spread → Type 0
HasOld u None = Unit {0}
HasOld u (Some ps) = HasPaths u ps

-- no count is near its limit
pub record HasRoom (u : Uses) : Type 0 where
  pub nhops : (h : Hop) → count_of hop_cmp u.nhops h < 1000000
  pub groups : (g : Spread) → count_of spread_cmp u.groups g < 1000000
  pub few : live_in u < 1000000

-- each nexthop's count is the number of one-path routes, plus the number of distinct groups, that name it; each
-- group's count is the number of routes that have it
pub record IsCounted (routes : List Spread) (u : Uses) : Type 0 where
  pub nhops : (h : Hop) → count_of hop_cmp u.nhops h ≡ count_by (λ ps. not (is_group ps) && names h ps) routes + count_by (names h) (keys_of u.groups)
  pub groups : (g : Spread) → count_of spread_cmp u.groups g ≡ count_by (λ ps. is_group ps && is_eq (spread_cmp g ps)) routes

-- routes with their counts, within the limit of routes and with room for so many live targets
pub record IsRib (live : ℕ) (rows : Table) (u : Uses) : Type 0 where
  pub counted : IsCounted (values_of rows) u
  pub lists : All IsSpread (values_of rows)
  pub room : length rows ≤ routes_max
  pub few : live_in u ≤ live
  pub most : AreTargets live
