use Rattle.std.proofs.Common.{◌≡◌, ◌<◌, ◌^◌, length}
use Rattle.table_bench.proofs.routes.commands_of.Given as goal

abbrev pub invariant-loop-place : goal.invariant-loop-place
invariant-loop-place l = record {
  length : length l.commands.items ≡ l.place;
  small : l.number < 2 ^ 18;
}
