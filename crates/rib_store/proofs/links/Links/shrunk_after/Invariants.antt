-- The nexthops that end so far, and those among the paths that are left, are all.
use Rattle.std.proofs.Common.{◌≡◌, ◌+◌, ◌≤◌, ◌==◌, ◌&&◌, not, drop}
use Rattle.prefix_width.specs.Order.{hop_cmp}
use Rattle.nhgrp_slots.specs.Order.{spread_cmp}
use Rattle.nhgrp_slots.specs.PathList.{hops}
use Rattle.counted_map.specs.Counts.{count_of, how_many}
use Rattle.nhgrp_slots.specs.Spread.{is_group}
use Rattle.rib_store.specs.Uses.{with_paths}
use Rattle.rib_store.proofs.links.Links.shrunk_after.Given as goal

abbrev pub invariant-loop-path : goal.invariant-loop-path
invariant-loop-path g l = record {
  done : l.gone + how_many (λ h. count_of hop_cmp (with_paths l.self l.new).nhops h == 1) (hops (drop l.path-index l.path-items)) ≡ how_many (λ h. count_of hop_cmp (with_paths l.self l.new).nhops h == 1) (hops l.path-items);
  gains : l.gains ≡ not (is_group l.new && not (count_of spread_cmp l.self.groups l.new == 0));
  within : l.gone ≤ l.path-index;
}
