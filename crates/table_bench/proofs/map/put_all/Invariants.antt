-- What is left to do on the map so far gives the map after all commands.
use Rattle.std.proofs.Common.{◌≡◌, fold, drop}
use Rattle.table_bench.specs.Phases.{map_from, put_or_drop}
use Rattle.table_bench.proofs.map.put_all.Given as goal

abbrev pub invariant-loop-command : goal.invariant-loop-command
invariant-loop-command l = fold put_or_drop l.map.entries (drop l.command-index l.commands) ≡ map_from l.fn.map.entries l.fn.commands
