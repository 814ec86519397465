-- The paths so far, and those that are left by the gateway among the others, are all that are.
use Rattle.std.proofs.Common.{◌≡◌, ◌++◌, drop}
use Rattle.nhgrp_slots.specs.PathList.{left_by}
use Rattle.nhgrp_slots.proofs.paths.Paths.left_by.Given as goal

abbrev pub invariant-loop-path : goal.invariant-loop-path
invariant-loop-path g l = l.paths.items ++ left_by l.gateway (drop l.path-index l.path-items) ≡ left_by l.gateway l.self.paths
