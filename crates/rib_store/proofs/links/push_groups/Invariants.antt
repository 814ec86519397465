-- The targets so far, and those of the groups that are left, are all.
use Rattle.std.proofs.Common.{◌≡◌, ◌++◌}
use Rattle.std.specs.Vec.Iter.{into_iter_items}
use Rattle.rib_store.specs.Targets.{manies}
use Rattle.rib_store.proofs.links.push_groups.Given as goal

abbrev pub invariant-loop-group : goal.invariant-loop-group
invariant-loop-group g l = l.targets.items ++ manies (into_iter_items l.group-iterator) ≡ l.initial.targets.items ++ manies l.fn.groups.items
