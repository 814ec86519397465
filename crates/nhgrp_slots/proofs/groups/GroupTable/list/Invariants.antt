-- The groups so far, and those that are left, are all the keys.
use Rattle.std.proofs.Common.{◌≡◌, ◌++◌}
use Rattle.std.specs.Map.{keys_of}
use Rattle.nhgrp_slots.proofs.groups.GroupTable.list.Given as goal

abbrev pub invariant-loop-group : goal.invariant-loop-group
invariant-loop-group g l = l.groups.items ++ keys_of l.group-iterator ≡ keys_of l.self
