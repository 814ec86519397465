use Rattle.std.proofs.Common.{◌-◌, ◌+◌, ◌*◌, ◌≤◌}
use Rattle.plan_cut.proofs.tests.repeat.Given as goal

-- so many steps of what a step can add
abbrev pub invariant-loop-n : goal.invariant-loop-n
invariant-loop-n g l =
    (l.n ≤ l.times)
    × (l.cutter.moment ≤ l.fn.cutter.moment + l.n * 4294967296)
    × (l.cutter.count ≤ l.fn.cutter.count + l.n)
    × (l.cutter.pending ≤ l.fn.cutter.pending + l.n)

abbrev pub decreases-loop-n : goal.decreases-loop-n
decreases-loop-n g l = l.times - l.n
