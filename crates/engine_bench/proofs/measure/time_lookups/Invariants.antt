use Rattle.std.proofs.Common.{◌≡◌, List, ℕ}
use Rattle.prefix_width.specs.Prefix.{Block}
use Rattle.engine_bench.specs.Sum.{check_sum}
use Rattle.engine_bench.proofs.measure.time_lookups.Given as goal

abbrev pub invariant-loop : goal.invariant-loop
invariant-loop g l = (rows : List (Block × ℕ)) → g.M.Module.stands l.table rows → l.sum ≡ check_sum g.row.W rows l.addrs
