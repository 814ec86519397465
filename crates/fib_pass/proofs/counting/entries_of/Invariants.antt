use Rattle.std.proofs.Common.{◌≡◌, ◌++◌}
use Rattle.fib_pass.proofs.counting.entries_of.Given as goal

abbrev pub invariant-loop-nexthop : goal.invariant-loop-nexthop
invariant-loop-nexthop g l = l.entries.items ++ l.nexthop-iterator ≡ l.numbering.entries
