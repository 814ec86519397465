-- The pairs of the first indexes.
use Rattle.std.proofs.Common.{◌≡◌, take}
use Rattle.std.specs.List.{filter_map}
use Rattle.nhop_index.specs.Indexes.{by_index}
use Rattle.fib_sync.specs.Fresh.{new_pair}
use Rattle.fib_sync.proofs.fresh.fresh_pairs.Given as goal

abbrev pub invariant-loop-i : goal.invariant-loop-i
invariant-loop-i g l = l.fresh.items ≡ filter_map (new_pair l.plan l.before.names) (take l.i (by_index l.indexes.names))
