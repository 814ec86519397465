-- Each change so far is a command more.
use Rattle.std.proofs.Common.{◌≡◌, ◌+◌, length}
use Rattle.control_bench.proofs.course.push_changes.Given as goal

abbrev pub invariant-loop-turn : goal.invariant-loop-turn
invariant-loop-turn l = length l.plan.commands ≡ length l.fn.plan.commands + l.turn
