-- The order of paths: path by path, a list before those that it begins, and equal paths by their layouts.
use Rattle.std.specs.Cmp.{IsTotalOrder}
use Rattle.std.specs.Cmp.Lexicographic.{slice_cmp, lists_total}
use Rattle.std.specs.declared.cmp.Ordering.{Ordering}
use Rattle.std.specs.Ordering.{nat_cmp, on, then_cmp}
use Rattle.std.proofs.lemmas.Cmp.{nat_cmp_total, on_total, then_total}
use Rattle.prefix_width.specs.Order.{path_cmp}
use Rattle.prefix_width.proofs.OrderLemmas.{hop_total}
use Rattle.nhgrp_slots.specs.PathList.{PathList}
use Rattle.nhgrp_slots.specs.Spread.{Spread}

abbrev pub paths_cmp : PathList → PathList → Ordering
paths_cmp = slice_cmp path_cmp

abbrev pub spread_cmp : Spread → Spread → Ordering
spread_cmp = then_cmp (on (λ s. s.paths) paths_cmp) (on (λ s. s.layout) (slice_cmp nat_cmp))

-- lists of paths are in a total order
pub paths_total : IsTotalOrder paths_cmp
paths_total = lists_total (then_total (on_total (λ p. p.nexthop) hop_total) (on_total (λ p. p.weight) nat_cmp_total))

-- so are paths with their layouts
pub spread_total : IsTotalOrder spread_cmp
spread_total = then_total (on_total (λ s. s.paths) paths_total) (on_total (λ s. s.layout) (lists_total nat_cmp_total))
