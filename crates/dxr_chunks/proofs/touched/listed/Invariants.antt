-- The numbers listed, and those to come.
use Rattle.std.proofs.Common.{◌≡◌, ◌++◌}
use Rattle.dxr_chunks.proofs.touched.listed.Given as goal

abbrev pub invariant-loop-number : goal.invariant-loop-number
invariant-loop-number l = l.list.items ++ l.number-iterator ≡ l.numbers.keys
