-- The divisor so far is the greatest of the weights so far.
use Rattle.std.proofs.Common.{take}
use Rattle.nhgrp_slots.specs.Slots.{weights}
use Rattle.nhgrp_slots.proofs.DivisorLemmas.{IsGcdOf}
use Rattle.nhgrp_slots.proofs.divisor.common_divisor.Given as goal

abbrev pub invariant-loop-path : goal.invariant-loop-path
invariant-loop-path g l = IsGcdOf (weights (take l.path-index l.paths)) l.divisor
