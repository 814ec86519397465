-- All lines are left, and then all are counted.
use Rattle.std.proofs.Common.{◌≤◌, List, length, ap, arith}
use Rattle.std.proofs.lemmas.Result.{on_ok_weaker}
use Rattle.route_lang.specs.declared.line.Line.{Line}
use Rattle.replay_run.proofs.ReplayLemmas.{at_first}
use Rattle.replay_run.proofs.SurveyLemmas.{survey_is, tally_none}
use Rattle.replay_run.proofs.survey.write_survey.Goals as goal

pub loop-i-init : goal.loop-i-init
loop-i-init g c =
    let new = c.in_ok-replay.ensures in
    (at_first c.args.script.now c.in_ok-replay.replay c.lines.ensures.facts new.inet new.inet6, tally_none c.args.script.now c.none-tally.result c.none-tally.ensures)

pub returns : goal.returns
returns g c =
    let past : length c.args.script.now.lines ≤ c.loop-i.i = omega (arith, c.loop-i-test.false, c.len-i-end.ensures, ap (λ (ls : List Line). length ls) c.lines.ensures.value) in
    on_ok_weaker c.write_last.result
    (survey_is c.args.script.now c.loop-i.i c.loop-i.replay c.loop-i.tally c.args.out.now.items _ _ _ past c.loop-i.invariant.0 c.loop-i.invariant.1 c.in_ok-write_changes.ensures c.in_ok-write_gets.ensures)
    c.write_last.ensures
