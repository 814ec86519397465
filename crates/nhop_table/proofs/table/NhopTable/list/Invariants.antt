-- The nexthops so far, and those that are left, are all the keys.
use Rattle.std.proofs.Common.{◌≡◌, ◌++◌}
use Rattle.std.specs.Map.{keys_of}
use Rattle.nhop_table.proofs.table.NhopTable.list.Given as goal

abbrev pub invariant-loop-nexthop : goal.invariant-loop-nexthop
invariant-loop-nexthop g l = l.nexthops.items ++ keys_of l.nexthop-iterator ≡ keys_of l.self
