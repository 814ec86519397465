-- The targets so far, and those of the nexthops that are left, are all.
use Rattle.std.proofs.Common.{◌≡◌, ◌++◌, drop}
use Rattle.rib_store.specs.Targets.{ones}
use Rattle.rib_store.proofs.links.push_nexthops.Given as goal

abbrev pub invariant-loop-nexthop : goal.invariant-loop-nexthop
invariant-loop-nexthop g l = l.targets.items ++ ones (drop l.nexthop-index l.nhops) ≡ l.initial.targets.items ++ ones l.nhops
