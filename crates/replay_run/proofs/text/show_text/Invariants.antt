-- What is written, with the spelling of the lines that are left, is all.
use Rattle.std.proofs.Common.{◌≡◌, ◌++◌, drop}
use Rattle.std.specs.List.{flat_map}
use Rattle.route_lang.specs.Spelling.{spelled, spelled_line}
use Rattle.replay_run.proofs.text.show_text.Given as goal

abbrev pub invariant-loop-i : goal.invariant-loop-i
invariant-loop-i l = l.out.items ++ flat_map (spelled_line l.script) (drop l.i l.script.lines) ≡ spelled l.script
