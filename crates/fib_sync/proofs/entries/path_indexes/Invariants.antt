-- The indexes of the paths so far.
use Rattle.std.proofs.Common.{◌≡◌, ℕ, Some, length}
use Rattle.std.specs.Prelude.{slice_get}
use Rattle.prefix_width.specs.Nexthop.{Hop}
use Rattle.nhgrp_slots.specs.PathList.{hops}
use Rattle.nhgrp_slots.specs.declared.target.Target.TheVariants.{One}
use Rattle.fib_sync.specs.Entries.{names_in}
use Rattle.fib_sync.proofs.entries.path_indexes.Given as goal

abbrev pub invariant-loop-path : goal.invariant-loop-path
invariant-loop-path g l = record {
  same : length l.of_paths.items ≡ l.path-index;
  named : (k i : ℕ) (h : Hop) → slice_get l.of_paths.items k ≡ Some i → slice_get (hops l.paths) k ≡ Some h → names_in (g.X.VersionIndexes.indexes l.indexes) i ≡ Some (One h);
}
