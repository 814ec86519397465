-- The best so far is the first of those so far that has the fewest slots for its weight.
use Rattle.std.specs.Prelude.{slice_index_or}
use Rattle.nhgrp_slots.specs.Layout.{weight_at}
use Rattle.nhgrp_slots.proofs.LayoutLemmas.{IsFirstLeast}
use Rattle.nhgrp_slots.proofs.layouts.least_full.Given as goal

abbrev pub invariant-loop-i : goal.invariant-loop-i
invariant-loop-i g l = IsFirstLeast (λ i. slice_index_or l.counts i 0) (weight_at l.paths) l.i l.best
