-- The table so far is that after the commands so far.
use Rattle.std.proofs.Common.{◌≡◌}
use Rattle.table_bench.specs.Live.{linked}
use Rattle.table_bench.proofs.live.link_all.Given as goal

abbrev pub invariant-loop-i : goal.invariant-loop-i
invariant-loop-i g l = record {
  profile : l.table.profile ≡ 1;
  rows : l.table.rows ≡ linked g.row.LIVE l.link l.first l.from l.fn.table.rows l.i;
}
