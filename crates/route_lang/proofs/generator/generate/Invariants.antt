-- The lines so far, before those that are left, are the script's.
use Rattle.std.proofs.Common.{◌≡◌, ◌+◌, ◌-◌}
use Rattle.route_lang.specs.Reader.Lines.{HasAtMost}
use Rattle.route_lang.specs.Reader.Draws.{led_by, generated_from, script_drawn}
use Rattle.route_lang.proofs.generator.generate.Given as goal

abbrev pub invariant-lines : goal.invariant-lines
invariant-lines l = record {
  room : HasAtMost l.before l.plans;
  script : led_by l.lines.items (generated_from (l.count - l.before) (l.before + 1) l.plans l.draws.state) ≡ script_drawn l.seed l.count;
}
