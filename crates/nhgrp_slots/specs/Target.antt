-- What a route leads to: one nexthop, or two or more paths with their layout.
use Rattle.std.specs.Prelude.{[], ◌∷◌}
use Rattle.std.specs.declared.cmp.Ordering.{Ordering}
use Rattle.std.specs.declared.cmp.Ordering.TheVariants.{Less, Greater}
use Rattle.prefix_width.specs.Order.{hop_cmp}
use Rattle.nhgrp_slots.specs.Order.{spread_cmp}
use Rattle.nhgrp_slots.specs.PathList.{PathList}
use Rattle.nhgrp_slots.specs.Spread.{Spread, IsGroup}
use Rattle.nhgrp_slots.specs.declared.target.Target.{Target}
use Rattle.nhgrp_slots.specs.declared.target.Target.TheVariants.{One, Many}

-- a target: what has several paths is a group
abbrev pub IsTarget : {w : _} → Target w → Type 0
IsTarget (One nexthop) = Unit {0}
IsTarget (Many paths) = IsGroup paths

-- the order of targets: nexthops, then groups
abbrev pub target_cmp : {w : _} → Target w → Target w → Ordering
target_cmp (One x) (One y) = hop_cmp x y
target_cmp (One x) (Many t) = Less
target_cmp (Many s) (One y) = Greater
target_cmp (Many s) (Many t) = spread_cmp s t

-- what these paths of a route lead to: the one nexthop, or all with their layout
abbrev pub target_in : {w : _} → Spread → PathList → Target w
target_in s [] = Many s
target_in s (p ∷ []) = One p.nexthop
target_in s (p ∷ q ∷ ps) = Many s

-- what the paths of a route lead to
abbrev pub target_of : {w : _} → Spread → Target w
target_of s = target_in s s.paths
