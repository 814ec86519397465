-- The count so far is that of the flows so far.
use Rattle.std.proofs.Common.{◌≡◌, ◌≤◌}
use Rattle.table_bench.specs.Flows.{flows_moved}
use Rattle.table_bench.proofs.flows.flows_moved.Given as goal

abbrev pub invariant-loop-flow : goal.invariant-loop-flow
invariant-loop-flow l = record {
  count : l.count ≡ flows_moved l.old l.new l.flow;
  few : l.count ≤ l.flow;
}
