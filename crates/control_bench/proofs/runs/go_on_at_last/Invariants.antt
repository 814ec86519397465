-- Where memory is wanting, plan, image and counts are as before.
use Rattle.std.proofs.Common.{◌≡◌}
use Rattle.control_bench.proofs.runs.go_on_at_last.Given as goal

abbrev pub invariant-loop-time : goal.invariant-loop-time
invariant-loop-time g l = record {
  plan : l.control.plan ≡ l.fn.control.plan;
  image : l.control.image ≡ l.fn.control.image;
  versions : l.totals.versions ≡ l.fn.totals.versions;
  plans : l.totals.plans ≡ l.fn.totals.plans;
}
