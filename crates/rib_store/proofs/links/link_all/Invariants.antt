-- The paths so far are linked.
use Rattle.std.proofs.Common.{◌≡◌, take}
use Rattle.prefix_width.specs.Order.{hop_cmp}
use Rattle.nhgrp_slots.specs.PathList.{hops}
use Rattle.counted_map.specs.Counts.{linked_all}
use Rattle.rib_store.proofs.links.link_all.Given as goal

abbrev pub invariant-loop-i : goal.invariant-loop-i
invariant-loop-i g l = l.nhops ≡ linked_all hop_cmp l.initial.nhops (hops (take l.i l.paths))
