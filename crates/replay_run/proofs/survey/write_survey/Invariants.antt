-- The lines before the place are taken and counted.
use Rattle.std.proofs.Common.{drop}
use Rattle.replay_run.specs.Replay.{IsUnderWay}
use Rattle.replay_run.specs.Surveying.{IsTally}
use Rattle.replay_run.proofs.survey.write_survey.Given as goal

abbrev pub invariant-loop-i : goal.invariant-loop-i
invariant-loop-i g l = IsUnderWay l.script (drop l.i l.script.lines) l.replay × IsTally l.script l.i l.tally
