-- The paths of a route with their layout: how flows are spread over them.
use Rattle.std.specs.Prelude.{◌≡◌, ℕ, ◌<◌, ◌≤◌, ◌%◌, Bool, true, false, ◌&&◌, List, [], ◌∷◌, length, map, Option, option_map, slice_get, slice_index_or, if◌then◌else◌}
use Rattle.prefix_width.specs.Nexthop.{Hop}
use Rattle.nhgrp_slots.specs.Layout.{IsLayout, kept_layout, layout_of, pick_in}
use Rattle.nhgrp_slots.specs.PathList as list
use Rattle.nhgrp_slots.specs.PathList.{PathList, IsPathList, left_by, paths_left}
use Rattle.nhgrp_slots.specs.Slots.{HaveWeights}

-- what the paths of a route are seen as
pub record Spread : Type 0 where
  pub paths : PathList
  pub layout : List ℕ

-- a list of paths of weights that they may have, with a layout of them: the one position 0 where there is one path
pub record IsSpread (s : Spread) : Type 0 where
  pub list : IsPathList s.paths
  pub weights : HaveWeights s.paths
  pub layout : IsLayout s.paths s.layout
  pub lone : length s.paths ≡ 1 → s.layout ≡ 0 ∷ []

-- their nexthops
abbrev pub hops : Spread → List Hop
hops s = list.hops s.paths

-- whether one of them has the nexthop
abbrev pub names : Hop → Spread → Bool
names h s = list.names h s.paths

-- whether one of them goes by a gateway
abbrev pub has_via : Spread → Bool
has_via s = list.has_via s.paths

-- a group: two paths or more
abbrev pub IsGroup : Spread → Type 0
IsGroup s = 2 ≤ length s.paths

-- whether there are two paths or more
abbrev pub are_several : PathList → Bool
are_several [] = false
are_several (p ∷ []) = false
are_several (p ∷ q ∷ ps) = true

-- whether they are a group
abbrev pub is_group : Spread → Bool
is_group s = are_several s.paths

-- the paths with the layout that their weights give
abbrev pub spread : PathList → Spread
spread ps = record { paths = ps; layout = layout_of ps }

-- the layout of those that are left of them: kept, where layouts are kept and two paths or more are left
abbrev pub left_layout : Bool → Spread → PathList → List ℕ
left_layout keeps old new = if keeps && are_several new then kept_layout old.paths old.layout new else layout_of new

-- those that are left of them
abbrev pub left_spread : Bool → Spread → PathList → Spread
left_spread keeps old new = record { paths = new; layout = left_layout keeps old new }

-- the paths that do not go by this gateway, where there are any
abbrev pub without : Bool → ℕ → Spread → Option Spread
without keeps g s = option_map (left_spread keeps s) (paths_left (left_by g s.paths))

-- the nexthop of a flow
abbrev pub pick : Spread → ℕ → Option Hop
pick s flow = pick_in s.paths s.layout flow

-- the layout, where each path stands as its index
abbrev pub compiled : Spread → List ℕ → List ℕ
compiled s indexes = map (λ i. slice_index_or indexes i 0) s.layout

-- slots in which the slot of each flow holds the index of a path, and its nexthop is the flow's
abbrev pub HoldPicked : Spread → List ℕ → List ℕ → Type 0
HoldPicked s indexes slots =
    (flow : ℕ) → (i : ℕ) × (i < length s.paths) × (slice_get (hops s) i ≡ pick s flow)
    × (slice_get indexes i ≡ slice_get slots (flow % length slots))
