-- The lines before the place are taken, and what is written for them is there.
use Rattle.std.proofs.Common.{◌≡◌, ◌++◌, drop}
use Rattle.replay_run.specs.Replay.{IsUnderWay, lines_text}
use Rattle.replay_run.proofs.serial_replay.serial_by.Given as goal

abbrev pub invariant-loop-i : goal.invariant-loop-i
invariant-loop-i g l = IsUnderWay l.script (drop l.i l.script.lines) l.replay × (l.out.items ++ lines_text l.script (drop l.i l.script.lines) ≡ lines_text l.script l.script.lines)
