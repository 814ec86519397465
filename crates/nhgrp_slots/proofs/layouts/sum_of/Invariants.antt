-- The sum so far, with that of the weights that are left, is that of all.
use Rattle.std.proofs.Common.{◌≡◌, ◌≤◌, ◌+◌, ◌*◌, drop, take, sum}
use Rattle.std.specs.Prelude.{All}
use Rattle.prefix_width.specs.Path.{IsWeight}
use Rattle.nhgrp_slots.specs.Slots.{weights}
use Rattle.nhgrp_slots.proofs.layouts.sum_of.Given as goal

abbrev pub invariant-loop-path : goal.invariant-loop-path
invariant-loop-path g l = record {
  done : l.sum + sum (weights (drop l.path-index l.paths)) ≡ sum (weights l.paths);
  bound : l.sum ≤ l.path-index * 16777215;
  each : All (λ p. IsWeight p.nexthop.kind p.weight) (take l.path-index l.paths);
}
