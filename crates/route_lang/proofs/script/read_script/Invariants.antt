-- The lines so far, before those of the rest, are the script's.
use Rattle.std.proofs.Common.{◌≡◌, ◌≤◌, ◌+◌, length}
use Rattle.route_lang.specs.Text.{lines_of}
use Rattle.route_lang.specs.Reader.Lines.{lines_from, with_front, no_plans, HasAtMost}
use Rattle.route_lang.specs.Limits.{lines_limit}
use Rattle.route_lang.proofs.script.read_script.Given as goal

abbrev pub invariant-lines : goal.invariant-lines
invariant-lines l = record {
  few : l.number ≤ lines_limit;
  room : HasAtMost l.number l.plans;
  script : with_front l.lines.items (lines_from (l.number + 1) l.plans (lines_of l.rest)) ≡ lines_from 1 no_plans (lines_of l.bytes);
}

abbrev pub decreases-lines : goal.decreases-lines
decreases-lines l = length (lines_of l.rest)
