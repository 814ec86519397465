-- The entries so far are those of the first indexes.
use Rattle.std.proofs.Common.{take}
use Rattle.fib_sync.specs.Entries.{AreMade, names_in}
use Rattle.fib_sync.proofs.entries.entries_of.Given as goal

abbrev pub invariant-loop-i : goal.invariant-loop-i
invariant-loop-i g l = AreMade (names_in (g.X.VersionIndexes.indexes l.indexes)) (take l.i (g.X.VersionIndexes.indexes l.indexes)) l.entries.items
