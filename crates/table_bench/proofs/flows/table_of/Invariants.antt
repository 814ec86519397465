-- The table so far is that of the first numbers.
use Rattle.std.proofs.Common.{◌≡◌}
use Rattle.table_bench.specs.Flows.{grouped}
use Rattle.table_bench.proofs.flows.table_of.Given as goal

abbrev pub invariant-loop-i : goal.invariant-loop-i
invariant-loop-i g l = record {
  profile : l.table.profile ≡ l.profile;
  rows : l.table.rows ≡ grouped g.row.LIVE l.profile l.drawn l.i;
}
