-- The table so far and the commands left give the table after all, and the count so far with what is left the whole count.
use Rattle.std.proofs.Common.{◌≡◌, ◌≤◌, ◌+◌, cond, drop, fold}
use Rattle.std.specs.List.{count_by}
use Rattle.table_bench.specs.Phases.{replies, table_from, is_done}
use Rattle.table_bench.proofs.table.apply_all.Given as goal

abbrev pub invariant-loop-command : goal.invariant-loop-command
invariant-loop-command g l = record {
  profile : l.table.profile ≡ 1;
  table : table_from g.row.LIVE l.table.rows (drop l.command-index l.commands) ≡ table_from g.row.LIVE l.fn.table.rows l.fn.commands;
  count : fold (λ a reply. a + cond (is_done l.phase reply) 1 0) l.count (replies g.row.LIVE l.table.rows (drop l.command-index l.commands)) ≡ count_by (is_done l.fn.phase) (replies g.row.LIVE l.fn.table.rows l.fn.commands);
  bound : l.count ≤ l.command-index;
}
