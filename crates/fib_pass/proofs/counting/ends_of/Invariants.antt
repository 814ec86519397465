use Rattle.std.proofs.Common.{◌≡◌, ◌≤◌, map, take}
use Rattle.std.specs.Prelude.{All}
use Rattle.fib_pass.specs.Totals.{end_of}
use Rattle.fib_pass.proofs.counting.ends_of.Given as goal

abbrev pub invariant-loop-pass : goal.invariant-loop-pass
invariant-loop-pass g l = (l.ends.items ≡ map end_of (take l.pass-index l.passes)) × All (λ e. e.lookups ≤ 16777216) l.ends.items
