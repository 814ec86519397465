use Rattle.std.proofs.Common.{◌≡◌, ◌++◌, ◌≤◌, All, vec_len}
use Rattle.std.specs.VecDeque.{deque_len}
use Rattle.module_trait.proofs.sweep.pass.Given as goal

abbrev pub invariant-loop-next : goal.invariant-loop-next
invariant-loop-next l = record {
  whole : l.cells.items ++ l.ahead.items ≡ l.fn.cells.items ++ l.fn.ahead.items;
  below : All (λ c. c.0 ≤ l.base) l.fn.cells.items → All (λ c. c.0 ≤ l.base) l.cells.items;
  len : vec_len l.fn.cells ≤ vec_len l.cells;
}

abbrev pub decreases-loop-next : goal.decreases-loop-next
decreases-loop-next l = deque_len l.ahead
