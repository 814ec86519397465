-- Each round so far makes 33 versions.
use Rattle.std.proofs.Common.{◌≡◌, ◌+◌, ◌*◌}
use Rattle.control_bench.proofs.measure.time_course.Given as goal

abbrev pub invariant-loop-round : goal.invariant-loop-round
invariant-loop-round g l = l.control.image.version ≡ l.versions + l._round * 33
