-- A command was run.
use Rattle.std.proofs.Common.{◌≡◌, ◌∙◌, ◌+◌, ◌++◌, [], ◌∷◌, false, length, Some, sym, ap, subst, arith}
use Rattle.std.specs.List.{slice_get}
use Rattle.prefix_width.specs.Choice.{choose}
use Rattle.rib_store.specs.Table.{Table, apply}
use Rattle.plan_cut.specs.Course.{IsCommand}
use Rattle.plan_cut.specs.PlanCourse.{course_of}
use Rattle.plan_cut.specs.Standing.{beat_of}
use Rattle.plan_cut.proofs.PlanCourseLemmas.{is_command_on}
use Rattle.std.proofs.lemmas.Option.{slice_get_within}
use Rattle.fib_sync.specs.Running.{Ran}
use Rattle.fib_sync.proofs.RunLemmas.{differs_is, number_bound, runs_on}
use Rattle.fib_sync.proofs.runner.Runner.run.Goals as goal

pub made_by-self-inside-requires : goal.made_by-self-inside-requires
made_by-self-inside-requires g c =
    let running : c.self.inside.ended ≡ false = ap (λ (r : Ran g.row.W). r.ended) c.self.view_is ∙ c.requires.running in
    let inside = c.deref.ensures in
    omega (arith, number_bound g.row.LIVE _ running c.self.invariant.0.run, c.self.invariant.0.run.within, c.command-command.ensures.most, ap (λ p. length p.commands) inside)

pub invariant_of-self-2 : goal.invariant_of-self-2
invariant_of-self-2 g c =
    let live = g.row.LIVE in
    let i = c.self.inside in
    let plan = i.plan.value in
    let n = i.commands in
    let h = c.self.invariant.0 in
    let command = c.command-command.result.now in
    let same = c.deref.ensures in
    let running : i.ended ≡ false = ap (λ (r : Ran g.row.W). r.ended) c.self.view_is ∙ c.requires.running in
    let here : slice_get plan.commands n ≡ Some command = ap (λ p. slice_get p.commands n) (sym same) ∙ c.command-command.ensures.command in
    let set = c.setting_behind-self-inside.ensures.value in
    let by = c.self.invariant.1 in
    let table : c.apply.new.self.rows ≡ (apply plan.profile live i.rib.rows command).table = c.in_ok-reply.ensures.table ∙ ap (λ p. (apply p live i.rib.rows command).table) by in
    let replied : c.in_ok-reply.reply ≡ (apply plan.profile live i.rib.rows command).reply = c.in_ok-reply.ensures.reply ∙ ap (λ p. (apply p live i.rib.rows command).reply) by in
    let choice : c.choose-kind.result ≡ choose g.row.W (Some i.made.kind) c.setting_behind-self-inside.result (length c.apply.new.self.rows) =
    c.choose-kind.ensures.value ∙ ap (λ n. choose g.row.W (Some i.made.kind) c.setting_behind-self-inside.result n) c.len.ensures.count in
    let differs = differs_is live plan n command i.rib.rows c.apply.new.self.rows i.replies.items i.made i.setting c.setting_behind-self-inside.result i.cutter c.choose-kind.result i.ended c.is_other-differs.result running h here table set choice c.is_other-differs.ensures in
    let is : IsCommand (course_of live plan) (n + 1) c.accepted.result (beat_of command) =
    subst (λ changed. IsCommand (course_of live plan) (n + 1) changed (beat_of command)) (sym c.accepted.ensures) (is_command_on live plan n command here _ (replied ∙ ap (λ (rows : Table). (apply plan.profile live rows command).reply) h.run.rib)) in (
      runs_on live plan n command i.rib.rows c.apply.new.self.rows i.replies.items c.push.new.self.items i.made c.made_by-self-inside.result i.setting c.setting_behind-self-inside.result i.cutter c.step-cut.new.self c.choose-kind.result c.step-cut.result i.ended running h (record {
        here = here;
        inside = slice_get_within plan.commands n command here;
        rib = table;
        reply = c.in_ok-reply.reply;
        replied = replied;
        put = c.in_ok-push.ensures.items ∙ ap (λ l. l ++ c.in_ok-reply.reply ∷ []) c.reserve.ensures.items;
        set = set;
        suits_setting = c.setting_behind-self-inside.ensures.suits;
        choice = choice;
        suits = c.choose-kind.ensures.suits;
        stands = c.step-cut.ensures.stands (course_of live plan) n (h.stands running) is;
        cuts = c.step-cut.ensures.cuts (course_of live plan) n (h.stands running) is (λ _. differs);
        moment = c.step-cut.ensures.moment;
        count = c.step-cut.ensures.count;
        pending = c.step-cut.ensures.pending;
        made = c.made_by-self-inside.ensures;
      }),
      c.apply.ensures.profile ∙ by,
    )

pub returns-clause-run : goal.returns-clause-run
returns-clause-run g c = let is = invariant_of-self-2 g c in is.0.run
