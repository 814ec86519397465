-- Each route so far is a command more.
use Rattle.std.proofs.Common.{◌≡◌, ◌+◌, length}
use Rattle.control_bench.proofs.course.push_routes.Given as goal

abbrev pub invariant-loop-place : goal.invariant-loop-place
invariant-loop-place l = length l.plan.commands ≡ length l.fn.plan.commands + l.place
