-- The count so far is that of the flows so far.
use Rattle.std.proofs.Common.{◌≡◌, ◌≤◌}
use Rattle.table_bench.specs.Flows.{flows_by}
use Rattle.table_bench.proofs.flows.flows_by.Given as goal

abbrev pub invariant-loop-flow : goal.invariant-loop-flow
invariant-loop-flow l = record {
  count : l.count ≡ flows_by l.nexthop l.group l.flow;
  few : l.count ≤ l.flow;
}
