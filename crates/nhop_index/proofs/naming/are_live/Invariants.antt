-- The targets so far are the live ones.
use Rattle.std.proofs.Common.{◌≡◌, take}
use Rattle.std.specs.Map.{keys_of}
use Rattle.nhop_index.proofs.naming.are_live.Given as goal

abbrev pub invariant-loop-i : goal.invariant-loop-i
invariant-loop-i g l = take l.i (keys_of l.names) ≡ take l.i l.live
