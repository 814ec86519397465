use Rattle.std.proofs.Common.{◌≡◌, ◌++◌}
use Rattle.std.specs.VecDeque.{deque_len}
use Rattle.module_trait.proofs.sweep.pass_all.Given as goal

abbrev pub invariant-loop-cell : goal.invariant-loop-cell
invariant-loop-cell l = l.cells.items ++ l.ahead.items ≡ l.fn.cells.items ++ l.fn.ahead.items

abbrev pub decreases-loop-cell : goal.decreases-loop-cell
decreases-loop-cell l = deque_len l.ahead
