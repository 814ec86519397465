-- The line at the place is the first of those that are left.
use Rattle.std.proofs.Common.{◌∙◌, Option, length, refl, ap, sym, subst, inl, inr}
use Rattle.std.specs.Prelude.{is_some}
use Rattle.prefix_width.specs.Nexthop.{Hop}
use Rattle.route_lang.specs.declared.line.Line.TheVariants.{Change, Quiet, Get4, Get6}
use Rattle.rib_store.specs.Plan.{Planned}
use Rattle.replay_run.specs.Family.{IsNext}
use Rattle.replay_run.specs.Limits.{targets_max}
use Rattle.replay_run.specs.Replay.{IsUnderWay, commands_run}
use Rattle.replay_run.proofs.ReplayLemmas.{after_change, after_quiet, after_get4, after_get6, answer_is, lines_at, next, replies_are}
use Rattle.replay_run.proofs.SurveyLemmas.{tally_change, tally_quiet, tally_get4, tally_get6}
use Rattle.replay_run.proofs.serial_replay.Replay.count_line.Goals as goal

pub run-requires-clause-inet : goal.run-requires-clause-inet
run-requires-clause-inet g c =
    let here = lines_at c.args.script.now c.args.i _ _ (Change c.in-Change.line c.in-Change.inet c.in-Change.inet6) c.lines.ensures.value c.get.ensures c.in-Change.is in
    let before = subst (λ rest. IsUnderWay c.args.script.now rest c.args.self.now) here c.requires.before in
    let at = next c.args.script.now (commands_run c.args.self.now) c.in-Change.line c.in-Change.inet c.in-Change.inet6 (inl before.fits.0) in
    subst (λ (p : Planned 32). IsNext c.in-Change.inet (commands_run c.args.self.now).inet (length p.commands)) (sym before.inet.plan) at.0

pub run-requires-clause-inet6 : goal.run-requires-clause-inet6
run-requires-clause-inet6 g c =
    let here = lines_at c.args.script.now c.args.i _ _ (Change c.in-Change.line c.in-Change.inet c.in-Change.inet6) c.lines.ensures.value c.get.ensures c.in-Change.is in
    let before = subst (λ rest. IsUnderWay c.args.script.now rest c.args.self.now) here c.requires.before in
    let at = next c.args.script.now (commands_run c.args.self.now) c.in-Change.line c.in-Change.inet c.in-Change.inet6 (inl before.fits.0) in
    subst (λ (p : Planned 128). IsNext c.in-Change.inet6 (commands_run c.args.self.now).inet6 (length p.commands)) (sym before.inet6.plan) at.1

pub run-requires-in-Quiet-clause-inet : goal.run-requires-in-Quiet-clause-inet
run-requires-in-Quiet-clause-inet g c =
    let here = lines_at c.args.script.now c.args.i _ _ (Quiet c.in-Quiet.line c.in-Quiet.inet c.in-Quiet.inet6) c.lines.ensures.value c.get.ensures c.in-Quiet.is in
    let before = subst (λ rest. IsUnderWay c.args.script.now rest c.args.self.now) here c.requires.before in
    let at = next c.args.script.now (commands_run c.args.self.now) c.in-Quiet.line c.in-Quiet.inet c.in-Quiet.inet6 (inr before.fits.0) in
    subst (λ (p : Planned 32). IsNext c.in-Quiet.inet (commands_run c.args.self.now).inet (length p.commands)) (sym before.inet.plan) at.0

pub run-requires-in-Quiet-clause-inet6 : goal.run-requires-in-Quiet-clause-inet6
run-requires-in-Quiet-clause-inet6 g c =
    let here = lines_at c.args.script.now c.args.i _ _ (Quiet c.in-Quiet.line c.in-Quiet.inet c.in-Quiet.inet6) c.lines.ensures.value c.get.ensures c.in-Quiet.is in
    let before = subst (λ rest. IsUnderWay c.args.script.now rest c.args.self.now) here c.requires.before in
    let at = next c.args.script.now (commands_run c.args.self.now) c.in-Quiet.line c.in-Quiet.inet c.in-Quiet.inet6 (inr before.fits.0) in
    subst (λ (p : Planned 128). IsNext c.in-Quiet.inet6 (commands_run c.args.self.now).inet6 (length p.commands)) (sym before.inet6.plan) at.1

pub returns-in_ok-reply-in-Change-clause-after : goal.returns-in_ok-reply-in-Change-clause-after
returns-in_ok-reply-in-Change-clause-after g c =
    let here = lines_at c.args.script.now c.args.i _ _ (Change c.in-Change.line c.in-Change.inet c.in-Change.inet6) c.lines.ensures.value c.get.ensures c.in-Change.is in
    let before = subst (λ rest. IsUnderWay c.args.script.now rest c.args.self.now) here c.requires.before in
    let run = c.in_ok-reply-in-Change.ensures in
    after_change c.args.script.now c.in-Change.line c.in-Change.inet c.in-Change.inet6 _ c.args.self.now _ before run.inet run.inet6

pub returns-in_ok-reply-in-Change-clause-tally : goal.returns-in_ok-reply-in-Change-clause-tally
returns-in_ok-reply-in-Change-clause-tally g c =
    let here = lines_at c.args.script.now c.args.i _ _ (Change c.in-Change.line c.in-Change.inet c.in-Change.inet6) c.lines.ensures.value c.get.ensures c.in-Change.is in
    let before = subst (λ rest. IsUnderWay c.args.script.now rest c.args.self.now) here c.requires.before in
    let reply = c.in_ok-reply-in-Change.ensures.reply ∙ replies_are c.args.script.now c.args.self.now.inet.family.plan c.args.self.now.inet6.family.plan c.in-Change.inet c.in-Change.inet6 before.inet.plan before.inet6.plan in
    tally_change c.args.script.now c.args.i c.args.tally.now _ c.requires.tally c.in-Change.line c.in-Change.inet c.in-Change.inet6 c.in_ok-reply-in-Change.reply here reply c.add_reply.ensures

pub returns-in_ok-run-in-Quiet-clause-after : goal.returns-in_ok-run-in-Quiet-clause-after
returns-in_ok-run-in-Quiet-clause-after g c =
    let here = lines_at c.args.script.now c.args.i _ _ (Quiet c.in-Quiet.line c.in-Quiet.inet c.in-Quiet.inet6) c.lines.ensures.value c.get.ensures c.in-Quiet.is in
    let before = subst (λ rest. IsUnderWay c.args.script.now rest c.args.self.now) here c.requires.before in
    let run = c.in_ok-run-in-Quiet.ensures in
    after_quiet c.args.script.now c.in-Quiet.line c.in-Quiet.inet c.in-Quiet.inet6 _ c.args.self.now _ before run.inet run.inet6

pub returns-in_ok-run-in-Quiet-clause-tally : goal.returns-in_ok-run-in-Quiet-clause-tally
returns-in_ok-run-in-Quiet-clause-tally g c =
    let here = lines_at c.args.script.now c.args.i _ _ (Quiet c.in-Quiet.line c.in-Quiet.inet c.in-Quiet.inet6) c.lines.ensures.value c.get.ensures c.in-Quiet.is in
    tally_quiet c.args.script.now c.args.i c.args.tally.now c.args.tally.now c.requires.tally c.in-Quiet.line c.in-Quiet.inet c.in-Quiet.inet6 here refl

pub returns-in_ok-answered-in-Get4-clause-after : goal.returns-in_ok-answered-in-Get4-clause-after
returns-in_ok-answered-in-Get4-clause-after g c =
    let here = lines_at c.args.script.now c.args.i _ _ (Get4 c.in-Get4.line c.in-Get4.addr c.in-Get4.flow c.in-Get4.at) c.lines.ensures.value c.get.ensures c.in-Get4.is in
    let before = subst (λ rest. IsUnderWay c.args.script.now rest c.args.self.now) here c.requires.before in
    let r = c.in_ok-answered-in-Get4.ensures in
    after_get4 c.args.script.now c.in-Get4.line c.in-Get4.addr c.in-Get4.flow c.in-Get4.at _ c.args.self.now _ before refl r.family r.packets

pub returns-in_ok-answered-in-Get4-clause-tally : goal.returns-in_ok-answered-in-Get4-clause-tally
returns-in_ok-answered-in-Get4-clause-tally g c =
    let here = lines_at c.args.script.now c.args.i _ _ (Get4 c.in-Get4.line c.in-Get4.addr c.in-Get4.flow c.in-Get4.at) c.lines.ensures.value c.get.ensures c.in-Get4.is in
    let before = subst (λ rest. IsUnderWay c.args.script.now rest c.args.self.now) here c.requires.before in
    let answer = answer_is targets_max c.args.self.now.inet.family.plan c.args.script.now.inet c.args.self.now.inet.family.commands c.in-Get4.at c.in-Get4.addr c.in-Get4.flow before.inet.plan (sym before.fits.0) in
    tally_get4 c.args.script.now c.args.i c.args.tally.now _ c.requires.tally c.in-Get4.line c.in-Get4.addr c.in-Get4.flow c.in-Get4.at c.in_ok-answered-in-Get4.answered here
    (c.in_ok-answered-in-Get4.ensures.answered ∙ ap (λ (h : Option Hop). is_some h) answer) c.add_get.ensures

pub returns-in_ok-answered-in-Get6-clause-after : goal.returns-in_ok-answered-in-Get6-clause-after
returns-in_ok-answered-in-Get6-clause-after g c =
    let here = lines_at c.args.script.now c.args.i _ _ (Get6 c.in-Get6.line c.in-Get6.addr c.in-Get6.flow c.in-Get6.at) c.lines.ensures.value c.get.ensures c.in-Get6.is in
    let before = subst (λ rest. IsUnderWay c.args.script.now rest c.args.self.now) here c.requires.before in
    let r = c.in_ok-answered-in-Get6.ensures in
    after_get6 c.args.script.now c.in-Get6.line c.in-Get6.addr c.in-Get6.flow c.in-Get6.at _ c.args.self.now _ before refl r.family r.packets

pub returns-in_ok-answered-in-Get6-clause-tally : goal.returns-in_ok-answered-in-Get6-clause-tally
returns-in_ok-answered-in-Get6-clause-tally g c =
    let here = lines_at c.args.script.now c.args.i _ _ (Get6 c.in-Get6.line c.in-Get6.addr c.in-Get6.flow c.in-Get6.at) c.lines.ensures.value c.get.ensures c.in-Get6.is in
    let before = subst (λ rest. IsUnderWay c.args.script.now rest c.args.self.now) here c.requires.before in
    let answer = answer_is targets_max c.args.self.now.inet6.family.plan c.args.script.now.inet6 c.args.self.now.inet6.family.commands c.in-Get6.at c.in-Get6.addr c.in-Get6.flow before.inet6.plan (sym before.fits.0) in
    tally_get6 c.args.script.now c.args.i c.args.tally.now _ c.requires.tally c.in-Get6.line c.in-Get6.addr c.in-Get6.flow c.in-Get6.at c.in_ok-answered-in-Get6.answered here
    (c.in_ok-answered-in-Get6.ensures.answered ∙ ap (λ (h : Option Hop). is_some h) answer) c.add_get-in-Get6.ensures
