-- The slots so far, and those of the positions that are left, are all.
use Rattle.std.proofs.Common.{◌≡◌, ◌++◌, drop, map}
use Rattle.std.specs.Prelude.{slice_index_or}
use Rattle.nhgrp_slots.proofs.slots.compiled.Given as goal

abbrev pub invariant-loop-position : goal.invariant-loop-position
invariant-loop-position l = l.slots.items ++ map (λ i. slice_index_or l.indexes i 0) (drop l.position-index l.layout) ≡ map (λ i. slice_index_or l.indexes i 0) l.layout
