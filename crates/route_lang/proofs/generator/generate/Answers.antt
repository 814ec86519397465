-- The lines that were drawn are all of the script's.
use Rattle.std.proofs.Common.{◌≡◌, ◌∙◌, ◌+◌, ◌-◌, subst, arith}
use Rattle.std.specs.Prelude.{IfOk}
use Rattle.route_lang.specs.Script.{Reading}
use Rattle.route_lang.specs.Reader.Draws.{script_drawn}
use Rattle.route_lang.proofs.AgreementLemmas.{drawn_agrees}
use Rattle.route_lang.proofs.ReadingLemmas.{room_behind}
use Rattle.route_lang.proofs.GeneratorLemmas.{generated_is_script, one_more_line, all_lines}
use Rattle.route_lang.proofs.generator.generate.Goals as goal

pub lines-preserved : goal.lines-preserved
lines-preserved c =
    let before = c.lines.before in
    let plans = c.lines.plans in
    let taken = c.in_ok-take_asked.ensures in
    let drawn = c.drawn_line-asked.ensures in
    record {
      room = rw taken.plans (room_behind (before + 1) plans c.drawn_line-asked.result (omega arith) (omega arith));
      script = one_more_line c.args.count before plans c.take_asked.new.plans c.lines.lines.items c.take_asked.new.lines.items c.lines.draws.state c.drawn_line-asked.new.draws.state c.drawn_line-asked.result
          c.lines-test.true drawn.asked drawn.state taken.plans taken.lines
          ∙ c.lines.invariant.script;
    }

pub of-requires : goal.of-requires
of-requires c =
    let all = all_lines (c.args.count - c.lines.before) (c.lines.before + 1) c.lines.plans c.lines.lines.items c.lines.draws.state (script_drawn c.args.seed c.args.count) (omega arith) c.lines.invariant.script in
    rw all (generated_is_script c.args.seed c.args.count c.requires.1)

pub returns : goal.returns
returns c =
    let all = all_lines (c.args.count - c.lines.before) (c.lines.before + 1) c.lines.plans c.lines.lines.items c.lines.draws.state (script_drawn c.args.seed c.args.count) (omega arith) c.lines.invariant.script in
    subst (λ (reading : Reading). IfOk c.of.result (λ script. script ≡ reading)) (all ∙ drawn_agrees c.args.seed c.args.count) c.of.ensures
