-- The entries that were skipped are of lesser targets.
use Rattle.std.proofs.Common.{◌≤◌, ◌-◌, length}
use Rattle.nhgrp_slots.specs.Target.{target_cmp}
use Rattle.nhop_index.specs.Merge.{ArePast}
use Rattle.nhop_index.proofs.naming.index_from.Given as goal

abbrev pub invariant-skip : goal.invariant-skip
invariant-skip g l = ArePast target_cmp l.before l.place l.target

abbrev pub decreases-skip : goal.decreases-skip
decreases-skip g l = length l.before - l.place
