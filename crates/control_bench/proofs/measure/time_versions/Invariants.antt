-- Each version so far is the next.
use Rattle.std.proofs.Common.{◌≡◌, ◌+◌}
use Rattle.control_bench.proofs.measure.time_versions.Given as goal

abbrev pub invariant-loop-number : goal.invariant-loop-number
invariant-loop-number g l = l.control.image.version ≡ l.fn.control.image.version + l._number
