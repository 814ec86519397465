-- The plan has its routes, and the rounds so far.
use Rattle.std.proofs.Common.{◌≡◌, ◌+◌, ◌*◌, length}
use Rattle.control_bench.proofs.course.course_of.Given as goal

abbrev pub invariant-loop-round : goal.invariant-loop-round
invariant-loop-round l = length l.plan.commands ≡ length l.prefixes + 2 + l.round * 321
