use Rattle.std.proofs.Common.{◌≡◌, ℕ, get_or, take, length}
use Rattle.fib_pass.specs.Totals.{last_count}
use Rattle.fib_pass.proofs.counting.spread.Given as goal

abbrev pub invariant-loop-at : goal.invariant-loop-at
invariant-loop-at l = (p : ℕ) → get_or l.places p 0 ≡ last_count (take l.at l.counts) p
