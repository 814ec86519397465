-- The line at the place is the first of those that are left.
use Rattle.std.proofs.Common.{◌∙◌, ◌+◌, ◌++◌, drop, length, refl, ap, sym, subst, inl, inr}
use Rattle.std.proofs.lemmas.Result.{on_ok_weaker}
use Rattle.route_lang.specs.declared.line.Line.TheVariants.{Change, Quiet, Get4, Get6}
use Rattle.rib_store.specs.Plan.{Planned}
use Rattle.replay_run.specs.Family.{IsNext}
use Rattle.replay_run.specs.Replay.{IsUnderWay, commands_run, lines_text}
use Rattle.replay_run.proofs.ReplayLemmas.{lines_at, next, after_change, after_quiet, after_get4, after_get6, text_change, text_quiet, text_get4, text_get6}
use Rattle.replay_run.proofs.serial_replay.Replay.take_line.Goals as goal

pub run-requires : goal.run-requires
run-requires g c =
    let here = lines_at c.args.script.now c.args.i _ _ (Change c.in-Change.line c.in-Change.inet c.in-Change.inet6) c.lines.ensures.value c.get.ensures c.in-Change.is in
    let before = subst (λ rest. IsUnderWay c.args.script.now rest c.args.self.now) here c.requires.before in
    let at = next c.args.script.now (commands_run c.args.self.now) c.in-Change.line c.in-Change.inet c.in-Change.inet6 (inl before.fits.0) in
    record {
      inet = subst (λ (p : Planned 32). IsNext c.in-Change.inet (commands_run c.args.self.now).inet (length p.commands)) (sym before.inet.plan) at.0;
      inet6 = subst (λ (p : Planned 128). IsNext c.in-Change.inet6 (commands_run c.args.self.now).inet6 (length p.commands)) (sym before.inet6.plan) at.1;
    }

pub run-requires-in-Quiet : goal.run-requires-in-Quiet
run-requires-in-Quiet g c =
    let here = lines_at c.args.script.now c.args.i _ _ (Quiet c.in-Quiet.line c.in-Quiet.inet c.in-Quiet.inet6) c.lines.ensures.value c.get.ensures c.in-Quiet.is in
    let before = subst (λ rest. IsUnderWay c.args.script.now rest c.args.self.now) here c.requires.before in
    let at = next c.args.script.now (commands_run c.args.self.now) c.in-Quiet.line c.in-Quiet.inet c.in-Quiet.inet6 (inr before.fits.0) in
    record {
      inet = subst (λ (p : Planned 32). IsNext c.in-Quiet.inet (commands_run c.args.self.now).inet (length p.commands)) (sym before.inet.plan) at.0;
      inet6 = subst (λ (p : Planned 128). IsNext c.in-Quiet.inet6 (commands_run c.args.self.now).inet6 (length p.commands)) (sym before.inet6.plan) at.1;
    }

pub returns-in_ok-reply-in-Change-clause-after : goal.returns-in_ok-reply-in-Change-clause-after
returns-in_ok-reply-in-Change-clause-after g c =
    let here = lines_at c.args.script.now c.args.i _ _ (Change c.in-Change.line c.in-Change.inet c.in-Change.inet6) c.lines.ensures.value c.get.ensures c.in-Change.is in
    let before = subst (λ rest. IsUnderWay c.args.script.now rest c.args.self.now) here c.requires.before in
    let run = c.in_ok-reply-in-Change.ensures in
    on_ok_weaker c.write_one_reply.result (λ _. after_change c.args.script.now c.in-Change.line c.in-Change.inet c.in-Change.inet6 _ c.args.self.now _ before run.inet run.inet6) c.write_one_reply.ensures

pub returns-in_ok-reply-in-Change-clause-text : goal.returns-in_ok-reply-in-Change-clause-text
returns-in_ok-reply-in-Change-clause-text g c =
    let here = lines_at c.args.script.now c.args.i _ _ (Change c.in-Change.line c.in-Change.inet c.in-Change.inet6) c.lines.ensures.value c.get.ensures c.in-Change.is in
    let before = subst (λ rest. IsUnderWay c.args.script.now rest c.args.self.now) here c.requires.before in
    let run = c.in_ok-reply-in-Change.ensures in
    on_ok_weaker c.write_one_reply.result
    (λ told. (text_change c.args.script.now _ c.args.self.now c.args.out.now.items _ c.in-Change.line c.in-Change.inet c.in-Change.inet6 c.in_ok-reply-in-Change.reply before run.reply told
    ∙ ap (λ rest. c.args.out.now.items ++ lines_text c.args.script.now rest) (sym here)))
    c.write_one_reply.ensures

pub returns-in_ok-run-in-Quiet-clause-after : goal.returns-in_ok-run-in-Quiet-clause-after
returns-in_ok-run-in-Quiet-clause-after g c =
    let here = lines_at c.args.script.now c.args.i _ _ (Quiet c.in-Quiet.line c.in-Quiet.inet c.in-Quiet.inet6) c.lines.ensures.value c.get.ensures c.in-Quiet.is in
    let before = subst (λ rest. IsUnderWay c.args.script.now rest c.args.self.now) here c.requires.before in
    let run = c.in_ok-run-in-Quiet.ensures in
    after_quiet c.args.script.now c.in-Quiet.line c.in-Quiet.inet c.in-Quiet.inet6 _ c.args.self.now _ before run.inet run.inet6

pub returns-in_ok-run-in-Quiet-clause-text : goal.returns-in_ok-run-in-Quiet-clause-text
returns-in_ok-run-in-Quiet-clause-text g c =
    let here = lines_at c.args.script.now c.args.i _ _ (Quiet c.in-Quiet.line c.in-Quiet.inet c.in-Quiet.inet6) c.lines.ensures.value c.get.ensures c.in-Quiet.is in
    text_quiet c.args.script.now (drop (c.args.i + 1) c.args.script.now.lines) c.args.self.now c.args.out.now.items _ c.in-Quiet.line c.in-Quiet.inet c.in-Quiet.inet6 refl
    ∙ ap (λ rest. c.args.out.now.items ++ lines_text c.args.script.now rest) (sym here)

pub returns-in-Get4-clause-after : goal.returns-in-Get4-clause-after
returns-in-Get4-clause-after g c =
    let here = lines_at c.args.script.now c.args.i _ _ (Get4 c.in-Get4.line c.in-Get4.addr c.in-Get4.flow c.in-Get4.at) c.lines.ensures.value c.get.ensures c.in-Get4.is in
    let before = subst (λ rest. IsUnderWay c.args.script.now rest c.args.self.now) here c.requires.before in
    let r = c.answer_get.ensures in
    on_ok_weaker c.answer_get.result (after_get4 c.args.script.now c.in-Get4.line c.in-Get4.addr c.in-Get4.flow c.in-Get4.at _ c.args.self.now _ before refl r.family) r.packets

pub returns-in-Get4-clause-text : goal.returns-in-Get4-clause-text
returns-in-Get4-clause-text g c =
    let here = lines_at c.args.script.now c.args.i _ _ (Get4 c.in-Get4.line c.in-Get4.addr c.in-Get4.flow c.in-Get4.at) c.lines.ensures.value c.get.ensures c.in-Get4.is in
    let before = subst (λ rest. IsUnderWay c.args.script.now rest c.args.self.now) here c.requires.before in
    on_ok_weaker c.answer_get.result
    (λ told. (text_get4 c.args.script.now _ c.args.self.now c.args.out.now.items _ c.in-Get4.line c.in-Get4.addr c.in-Get4.flow c.in-Get4.at before told
    ∙ ap (λ rest. c.args.out.now.items ++ lines_text c.args.script.now rest) (sym here)))
    c.answer_get.ensures.out

pub returns-in-Get6-clause-after : goal.returns-in-Get6-clause-after
returns-in-Get6-clause-after g c =
    let here = lines_at c.args.script.now c.args.i _ _ (Get6 c.in-Get6.line c.in-Get6.addr c.in-Get6.flow c.in-Get6.at) c.lines.ensures.value c.get.ensures c.in-Get6.is in
    let before = subst (λ rest. IsUnderWay c.args.script.now rest c.args.self.now) here c.requires.before in
    let r = c.answer_get-in-Get6.ensures in
    on_ok_weaker c.answer_get-in-Get6.result (after_get6 c.args.script.now c.in-Get6.line c.in-Get6.addr c.in-Get6.flow c.in-Get6.at _ c.args.self.now _ before refl r.family) r.packets

pub returns-in-Get6-clause-text : goal.returns-in-Get6-clause-text
returns-in-Get6-clause-text g c =
    let here = lines_at c.args.script.now c.args.i _ _ (Get6 c.in-Get6.line c.in-Get6.addr c.in-Get6.flow c.in-Get6.at) c.lines.ensures.value c.get.ensures c.in-Get6.is in
    let before = subst (λ rest. IsUnderWay c.args.script.now rest c.args.self.now) here c.requires.before in
    on_ok_weaker c.answer_get-in-Get6.result
    (λ told. (text_get6 c.args.script.now _ c.args.self.now c.args.out.now.items _ c.in-Get6.line c.in-Get6.addr c.in-Get6.flow c.in-Get6.at before told
    ∙ ap (λ rest. c.args.out.now.items ++ lines_text c.args.script.now rest) (sym here)))
    c.answer_get-in-Get6.ensures.out
