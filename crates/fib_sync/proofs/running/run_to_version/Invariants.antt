use Rattle.std.proofs.Common.{◌≡◌, ◌-◌, ◌<◌, ◌≤◌, length}
use Rattle.fib_sync.specs.Standing.{IsAhead}
use Rattle.fib_sync.proofs.running.run_to_version.Given as goal

abbrev pub invariant-running : goal.invariant-running
invariant-running g l = record {
  ahead : IsAhead g.row.LIVE l.given l.runner l.touched;
  plan : l.runner.plan ≡ l.fn.runner.plan;
  further : l.fn.runner.commands ≤ l.runner.commands;
  stays : l.given < l.fn.runner.made.number → l.runner ≡ l.fn.runner;
}

abbrev pub decreases-running : goal.decreases-running
decreases-running g l = length l.runner.plan.commands - l.runner.commands
