-- The first indexes are the same.
use Rattle.std.proofs.Common.{◌≡◌, ℕ, ◌<◌}
use Rattle.std.specs.Prelude.{slice_get}
use Rattle.nhop_index.specs.Indexes.{by_index}
use Rattle.fib_sync.proofs.index_pair.have_same.Given as goal

abbrev pub invariant-loop-i : goal.invariant-loop-i
invariant-loop-i g l = (k : ℕ) → k < l.i → slice_get (by_index l.last.names) k ≡ slice_get (by_index l.indexes.names) k
