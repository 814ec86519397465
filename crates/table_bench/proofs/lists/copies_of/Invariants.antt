-- The copies so far are those of the targets so far.
use Rattle.std.proofs.Common.{◌≡◌, take}
use Rattle.table_bench.proofs.lists.copies_of.Given as goal

abbrev pub invariant-loop-target : goal.invariant-loop-target
invariant-loop-target l = l.copies.items ≡ take l.target-index l.targets
