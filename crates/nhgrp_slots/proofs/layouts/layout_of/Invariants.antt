-- The slots so far, and those that the weights that are left fill, are all.
use Rattle.std.proofs.Common.{◌≡◌, ◌≤◌, ◌-◌, ◌++◌, drop, length, sum}
use Rattle.std.specs.List.{range_with_len}
use Rattle.nhgrp_slots.specs.Layout.{layout_of}
use Rattle.nhgrp_slots.specs.Slots.{fill, shares, weights}
use Rattle.nhgrp_slots.proofs.layouts.layout_of.Given as goal

abbrev pub invariant-loop-i : goal.invariant-loop-i
invariant-loop-i g l = record {
  done : l.slots.items ++ fill (shares l.rem_slots l.rem_sum (weights (drop l.i l.paths))) (range_with_len l.i (length l.paths - l.i)) ≡ layout_of l.paths;
  total : l.rem_sum ≡ sum (weights (drop l.i l.paths));
  few : l.rem_slots ≤ 64;
}
