-- The fresh nexthops so far, and those among the paths that are left, are all.
use Rattle.std.proofs.Common.{◌≡◌, ◌+◌, ◌≤◌, ◌==◌, drop}
use Rattle.prefix_width.specs.Order.{hop_cmp}
use Rattle.nhgrp_slots.specs.PathList.{hops}
use Rattle.counted_map.specs.Counts.{count_of, how_many}
use Rattle.rib_store.proofs.links.Links.grown.Given as goal

abbrev pub invariant-loop-path : goal.invariant-loop-path
invariant-loop-path g l = record {
  done : l.fresh + how_many (λ h. count_of hop_cmp l.self.nhops h == 0) (hops (drop l.path-index l.path-items)) ≡ how_many (λ h. count_of hop_cmp l.self.nhops h == 0) (hops l.path-items);
  within : l.fresh ≤ l.path-index;
}
