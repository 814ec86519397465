-- Every step goes a bit deeper at least.
use Rattle.std.proofs.Common.{◌+◌, ◌-◌, ◌≤◌}
use Rattle.radix_lockless.specs.Packed.{seen}
use Rattle.radix_lockless.proofs.FindLemmas.{IsWalk}
use Rattle.radix_lockless.proofs.find.longest_in.Given as goal

abbrev pub invariant-loop-at : goal.invariant-loop-at
invariant-loop-at g l = record {
  walk : IsWalk (seen g.P.NodeView.node (g.N.NodeReads.node l.nodes)) l.fn.root l.addr l.at l.best (l.steps - l.fn.steps);
  grew : l.fn.steps ≤ l.steps;
  few : l.steps ≤ l.fn.steps + (g.row.W + 1);
}

abbrev pub decreases-loop-at : goal.decreases-loop-at
decreases-loop-at g l = l.fn.steps + (g.row.W + 1) - l.steps
