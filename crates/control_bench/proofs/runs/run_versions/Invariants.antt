-- The plan is as before, and each version so far is counted.
use Rattle.std.proofs.Common.{◌≡◌, ◌+◌, ◌-◌, ◌^◌, ◌≤◌, min}
use Rattle.control_bench.proofs.runs.run_versions.Given as goal

abbrev pub invariant-loop-version : goal.invariant-loop-version
invariant-loop-version g l = record {
  plan : l.control.plan ≡ l.fn.control.plan;
  on : l.fn.control.image.version ≤ l.control.image.version;
  counted : l.totals.versions ≡ min (l.fn.totals.versions + (l.control.image.version - l.fn.control.image.version)) (2 ^ 64 - 1);
  plans : l.totals.plans ≡ l.fn.totals.plans;
}
