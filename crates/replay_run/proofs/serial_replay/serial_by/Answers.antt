-- All lines are left.
use Rattle.std.proofs.Common.{◌++◌, ℕ, List, ap}
use Rattle.replay_run.specs.Replay.{lines_text}
use Rattle.replay_run.proofs.ReplayLemmas.{at_first}
use Rattle.replay_run.proofs.serial_replay.serial_by.Goals as goal

pub loop-i-init : goal.loop-i-init
loop-i-init g c =
    let new = c.in_ok-replay.ensures in
    (at_first c.args.script.now c.in_ok-replay.replay c.lines.ensures.facts new.inet new.inet6, ap (λ (bytes : List ℕ). bytes ++ lines_text c.args.script.now c.args.script.now.lines) c.new-out.ensures.items)
