-- The gets before the place that are the worker's are made.
use Rattle.std.proofs.Common.{◌≡◌, ◌≤◌, ◌+◌, ◌*◌, ◌-◌, length}
use Rattle.threaded_replay.specs.Legal.{by_family}
use Rattle.replay_run.specs.Limits.{targets_max}
use Rattle.threaded_replay.specs.Serving.{Serves, of_plans}
use Rattle.threaded_replay.proofs.worker.work_counted.Given as goal

abbrev pub invariant-loop-j : goal.invariant-loop-j
invariant-loop-j g l = record {
  serves : Serves targets_max (of_plans g.A.Naming.plan g.B.Naming.plan) l.asks l.workers l.number l.gots.items (λ h. by_family h l.passes.inet.0 l.passes.inet6.0);
  at : l.j ≡ l.number + length l.gots.items * l.workers;
  few : l.passes.inet.0.lookups ≤ l.j;
  few6 : l.passes.inet6.0.lookups ≤ l.j;
}

abbrev pub decreases-loop-j : goal.decreases-loop-j
decreases-loop-j g l = length l.asks - l.j
