-- The sum so far with what is left is the check sum of all.
use Rattle.std.proofs.Common.{◌≡◌, ◌+◌, ◌%◌, ◌^◌, List, ℕ, drop, map}
use Rattle.prefix_width.specs.Prefix.{Block}
use Rattle.module_trait.specs.Starts.{index_at}
use Rattle.engine_bench.specs.Sum.{weighed, check_sum}
use Rattle.engine_bench.proofs.measure.sum_of.Given as goal

abbrev pub invariant-loop-i : goal.invariant-loop-i
invariant-loop-i g l = (rows : List (Block × ℕ)) → g.M.Module.stands l.table rows → (l.sum + weighed (l.i + 1) (map (index_at g.row.W rows) (drop l.i l.addrs))) % 2 ^ 64 ≡ check_sum g.row.W rows l.addrs
