-- The plan's end was asked.
use Rattle.std.proofs.Common.{◌≡◌, ◌∙◌, false, length, Some, sym, ap, subst, arith}
use Rattle.prefix_width.specs.Choice.{choose}
use Rattle.plan_cut.specs.PlanCourse.{course_of}
use Rattle.plan_cut.specs.Standing.{StandsAt}
use Rattle.fib_sync.specs.Running.{Ran}
use Rattle.fib_sync.proofs.RunLemmas.{ends_on, number_bound}
use Rattle.fib_sync.proofs.runner.Runner.finish.Goals as goal

pub made_by-self-inside-requires : goal.made_by-self-inside-requires
made_by-self-inside-requires g c =
    let running : c.self.inside.ended ≡ false = ap (λ (r : Ran g.row.W). r.ended) c.self.view_is ∙ c.requires.running in
    omega (arith, number_bound g.row.LIVE _ running c.self.invariant.0.run, c.self.invariant.0.run.within, c.len-most.ensures.count, c.len-most.ensures.most, ap (λ p. length p.commands) c.deref.ensures)

pub invariant_of-self : goal.invariant_of-self
invariant_of-self g c =
    let live = g.row.LIVE in
    let i = c.self.inside in
    let plan = i.plan.value in
    let n = i.commands in
    let h = c.self.invariant.0 in
    let running : i.ended ≡ false = ap (λ (r : Ran g.row.W). r.ended) c.self.view_is ∙ c.requires.running in
    let all : n ≡ length plan.commands = ap (λ (r : Ran g.row.W). r.commands) c.self.view_is ∙ c.requires.all ∙ ap (λ (r : Ran g.row.W). length r.plan.commands) (sym c.self.view_is) in
    let choice : c.choose-kind.result ≡ choose g.row.W (Some i.made.kind) i.setting (length i.rib.rows) =
    c.choose-kind.ensures.value ∙ ap (λ n. choose g.row.W (Some i.made.kind) i.setting n) c.len.ensures.count in (
      ends_on live plan n i.rib.rows i.replies.items i.made c.made_by-self-inside.result i.setting i.cutter c.finish-cut.new.self c.choose-kind.result c.finish-cut.result i.ended running h all
          (c.finish-cut.ensures.cuts (course_of live plan) (subst (λ m. StandsAt (course_of live plan) m i.cutter) all (h.stands running)))
          choice c.choose-kind.ensures.suits c.made_by-self-inside.ensures c.finish-cut.ensures.spent,
      c.self.invariant.1,
    )

pub returns-clause-run : goal.returns-clause-run
returns-clause-run g c = let is = invariant_of-self g c in is.0.run
