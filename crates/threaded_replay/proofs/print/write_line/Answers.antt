-- The line at the place is the first of those that are left.
use Rattle.std.proofs.Common.{◌≡◌, ◌∙◌, ◌<◌, ◌++◌, Some, IfSome, ap, refl, sym, subst, arith, length}
use Rattle.std.specs.List.{slice_get}
use Rattle.std.proofs.lemmas.Option.{slice_get_read}
use Rattle.std.proofs.lemmas.Result.{IfOk-weaker}
use Rattle.rib_store.specs.Plan.{Planned}
use Rattle.route_lang.specs.declared.line.Line.TheVariants.{Change, Quiet, Get4, Get6}
use Rattle.replay_run.specs.Output.{line_reply, one_reply, replied, reply_of}
use Rattle.replay_run.specs.Limits.{targets_max}
use Rattle.threaded_replay.specs.Merging.{version_in}
use Rattle.threaded_replay.proofs.AskLemmas.{at_line, few_gets}
use Rattle.threaded_replay.proofs.PrintLemmas.{IfOk-any, answered_inet, answered_inet6, at_change, at_get4, at_get6, at_quiet, change_text, get4_text, get6_text, has_answer, has_commands, quiet_text, text_on}
use Rattle.threaded_replay.proofs.print.write_line.Goals as goal

pub write_change-requires-clause-inet : goal.write_change-requires-clause-inet
write_change-requires-clause-inet c =
    let has = has_commands c.args.script.now _ c.args.i _ (Change c.in-Change.line c.in-Change.inet c.in-Change.inet6) c.lines.ensures.facts c.lines.ensures.value c.get.ensures c.in-Change.is in
    subst (λ (p : Planned 32). IfSome c.in-Change.inet (λ pos. pos < length p.commands)) (sym c.requires.ran.plan) has.0

pub write_change-requires-clause-inet6 : goal.write_change-requires-clause-inet6
write_change-requires-clause-inet6 c =
    let has = has_commands c.args.script.now _ c.args.i _ (Change c.in-Change.line c.in-Change.inet c.in-Change.inet6) c.lines.ensures.facts c.lines.ensures.value c.get.ensures c.in-Change.is in
    subst (λ (p : Planned 128). IfSome c.in-Change.inet6 (λ pos. pos < length p.commands)) (sym c.requires.ran.plan6) has.1

pub returns-in-Change : goal.returns-in-Change
returns-in-Change c =
    let a = c.in-Change in
    let ran = c.args.ran.now in
    let here = at_line c.args.script.now c.args.i _ _ (Change a.line a.inet a.inet6) c.lines.ensures.value c.get.ensures a.is in
    let same : replied a.line (one_reply (reply_of targets_max ran.fibs.inet.control.plan a.inet) (reply_of targets_max ran.fibs.inet6.control.plan a.inet6)) ≡ replied a.line (line_reply targets_max c.args.script.now a.inet a.inet6) =
    ap (λ (p : Planned 32). replied a.line (one_reply (reply_of targets_max p a.inet) (reply_of targets_max ran.fibs.inet6.control.plan a.inet6))) c.requires.ran.plan
    ∙ ap (λ (p : Planned 128). replied a.line (one_reply (reply_of targets_max c.args.script.now.inet a.inet) (reply_of targets_max p a.inet6))) c.requires.ran.plan6 in
    record {
      at = IfOk-any c.write_change.result _ (at_change c.args.script.now c.args.i c.args.gets.now a.line a.inet a.inet6 here c.requires.at);
      text = IfOk-weaker c.write_change.result _ _
          (λ x written. text_on _ _ _ _ _ (written ∙ ap (λ t. c.args.out.now.items ++ t) same)
          (change_text targets_max c.args.script.now (version_in ran.gots.items) c.args.i c.args.gets.now a.line a.inet a.inet6 here))
          c.write_change.ensures;
    }

pub returns-in-Quiet : goal.returns-in-Quiet
returns-in-Quiet c =
    let here = at_line c.args.script.now c.args.i _ _ (Quiet c.in-Quiet.line c.in-Quiet.inet c.in-Quiet.inet6) c.lines.ensures.value c.get.ensures c.in-Quiet.is in
    record {
      at = at_quiet c.args.script.now c.args.i c.args.gets.now c.in-Quiet.line c.in-Quiet.inet c.in-Quiet.inet6 here c.requires.at;
      text = ap (λ bs. c.args.out.now.items ++ bs) (sym (quiet_text targets_max c.args.script.now (version_in c.args.ran.now.gots.items) c.args.i c.args.gets.now c.in-Quiet.line c.in-Quiet.inet c.in-Quiet.inet6 here));
    }

pub index-got-requires : goal.index-got-requires
index-got-requires c =
    let a = c.in-Get4 in
    let here = at_line c.args.script.now c.args.i _ _ (Get4 a.line a.addr a.flow a.at) c.lines.ensures.value c.get.ensures a.is in
    let get = at_get4 c.args.script.now c.args.i c.args.gets.now a.line a.addr a.flow a.at here c.requires.at in
    let inside = has_answer targets_max c.args.script.now c.args.ran.now.gots.items c.args.gets.now _ c.requires.ran.right get.1 in
    omega (arith, inside, c.args.ran.now.gots.ok.0)

pub overflow_add-gets : goal.overflow_add-gets
overflow_add-gets c =
    let a = c.in-Get4 in
    let here = at_line c.args.script.now c.args.i _ _ (Get4 a.line a.addr a.flow a.at) c.lines.ensures.value c.get.ensures a.is in
    let get = at_get4 c.args.script.now c.args.i c.args.gets.now a.line a.addr a.flow a.at here c.requires.at in
    let inside = has_answer targets_max c.args.script.now c.args.ran.now.gots.items c.args.gets.now _ c.requires.ran.right get.1 in
    omega (arith, inside, c.requires.ran.right.count, few_gets c.args.script.now c.lines.ensures.facts)

pub returns-in-Get4 : goal.returns-in-Get4
returns-in-Get4 c =
    let a = c.in-Get4 in
    let gots = c.args.ran.now.gots.items in
    let got = c.index-got.result.now in
    let here = at_line c.args.script.now c.args.i _ _ (Get4 a.line a.addr a.flow a.at) c.lines.ensures.value c.get.ensures a.is in
    let get = at_get4 c.args.script.now c.args.i c.args.gets.now a.line a.addr a.flow a.at here c.requires.at in
    let inside = has_answer targets_max c.args.script.now gots c.args.gets.now _ c.requires.ran.right get.1 in
    let is : slice_get gots c.args.gets.now ≡ Some got = slice_get_read gots (length gots) c.args.gets.now got refl inside c.index-got.ensures in
    let same = answered_inet targets_max c.args.script.now gots c.args.gets.now a.line a.addr a.flow a.at get.0 got c.requires.ran.right get.1 is in
    record {
      at = IfOk-any c.write_got.result _ get.2;
      text = IfOk-weaker c.write_got.result _ _
          (λ x written. text_on _ _ _ _ _ (written ∙ ap (λ t. c.args.out.now.items ++ t) same)
          (get4_text targets_max c.args.script.now (version_in gots) c.args.i c.args.gets.now a.line a.addr a.flow a.at here))
          c.write_got.ensures;
    }

pub index-got-requires-in-Get6 : goal.index-got-requires-in-Get6
index-got-requires-in-Get6 c =
    let a = c.in-Get6 in
    let here = at_line c.args.script.now c.args.i _ _ (Get6 a.line a.addr a.flow a.at) c.lines.ensures.value c.get.ensures a.is in
    let get = at_get6 c.args.script.now c.args.i c.args.gets.now a.line a.addr a.flow a.at here c.requires.at in
    let inside = has_answer targets_max c.args.script.now c.args.ran.now.gots.items c.args.gets.now _ c.requires.ran.right get.1 in
    omega (arith, inside, c.args.ran.now.gots.ok.0)

pub overflow_add-gets-in-Get6 : goal.overflow_add-gets-in-Get6
overflow_add-gets-in-Get6 c =
    let a = c.in-Get6 in
    let here = at_line c.args.script.now c.args.i _ _ (Get6 a.line a.addr a.flow a.at) c.lines.ensures.value c.get.ensures a.is in
    let get = at_get6 c.args.script.now c.args.i c.args.gets.now a.line a.addr a.flow a.at here c.requires.at in
    let inside = has_answer targets_max c.args.script.now c.args.ran.now.gots.items c.args.gets.now _ c.requires.ran.right get.1 in
    omega (arith, inside, c.requires.ran.right.count, few_gets c.args.script.now c.lines.ensures.facts)

pub returns-in-Get6 : goal.returns-in-Get6
returns-in-Get6 c =
    let a = c.in-Get6 in
    let gots = c.args.ran.now.gots.items in
    let got = c.index-got-in-Get6.result.now in
    let here = at_line c.args.script.now c.args.i _ _ (Get6 a.line a.addr a.flow a.at) c.lines.ensures.value c.get.ensures a.is in
    let get = at_get6 c.args.script.now c.args.i c.args.gets.now a.line a.addr a.flow a.at here c.requires.at in
    let inside = has_answer targets_max c.args.script.now gots c.args.gets.now _ c.requires.ran.right get.1 in
    let is : slice_get gots c.args.gets.now ≡ Some got = slice_get_read gots (length gots) c.args.gets.now got refl inside c.index-got-in-Get6.ensures in
    let same = answered_inet6 targets_max c.args.script.now gots c.args.gets.now a.line a.addr a.flow a.at get.0 got c.requires.ran.right get.1 is in
    record {
      at = IfOk-any c.write_got6.result _ get.2;
      text = IfOk-weaker c.write_got6.result _ _
          (λ x written. text_on _ _ _ _ _ (written ∙ ap (λ t. c.args.out.now.items ++ t) same)
          (get6_text targets_max c.args.script.now (version_in gots) c.args.i c.args.gets.now a.line a.addr a.flow a.at here))
          c.write_got6.ensures;
    }
