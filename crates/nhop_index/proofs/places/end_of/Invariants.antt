-- One more than the greatest index so far.
use Rattle.std.proofs.Common.{take}
use Rattle.std.specs.Map.{values_of}
use Rattle.nhop_index.specs.Table.{IsEnd}
use Rattle.nhop_index.proofs.places.end_of.Given as goal

abbrev pub invariant-loop-name : goal.invariant-loop-name
invariant-loop-name g l = IsEnd (values_of (take l.name-index l.names)) l.end
