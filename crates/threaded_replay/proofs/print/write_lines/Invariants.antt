-- What is written, with what the lines that are left give, is all.
use Rattle.std.proofs.Common.{◌≡◌, ◌++◌}
use Rattle.replay_run.specs.Limits.{targets_max}
use Rattle.threaded_replay.specs.Merging.{version_in}
use Rattle.threaded_replay.specs.Printing.{IsAtGet, text_behind}
use Rattle.threaded_replay.proofs.print.write_lines.Given as goal

abbrev pub invariant-loop-i : goal.invariant-loop-i
invariant-loop-i l = record {
  at : IsAtGet l.script l.i l.gets;
  text : l.out.items ++ text_behind targets_max l.script l.i (version_in l.ran.gots.items) l.gets ≡ l.fn.out.items ++ text_behind targets_max l.script 0 (version_in l.ran.gots.items) 0;
}
