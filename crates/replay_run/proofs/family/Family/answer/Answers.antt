-- The image is lawful for the last version made.
use Rattle.std.proofs.Common.{◌≡◌, ◌∙◌, ℕ, All, List, subst, sym}
use Rattle.nhgrp_slots.specs.declared.target.Target.{Target}
use Rattle.nhop_index.specs.Indexes.{target_at}
use Rattle.rib_store.specs.Plan.{Planned}
use Rattle.rib_store.specs.Weights.{IsWeighted}
use Rattle.plan_cut.specs.PlanCourse.{version_before}
use Rattle.plan_cut.specs.VersionTable.{answer_at}
use Rattle.engine_set.specs.Image.{Picture}
use Rattle.fib_sync.specs.Lawful.{IsLawful, IsSent}
use Rattle.fib_sync.specs.VersionNames.{names_at}
use Rattle.replay_run.specs.Family.{Followed}
use Rattle.replay_run.proofs.family.Family.answer.Goals as goal

pub returns : goal.returns
returns g c =
    let i = c.self.inside in
    let inv = c.self.invariant in
    let plan = i.control.plan in
    let v = version_before g.row.LIVE plan i.commands in
    let weighted = subst (λ (p : Planned g.row.W). All IsWeighted p.commands) (c.deref.ensures ∙ c.plan.ensures) c.len-weighted.ensures.weights in
    let lawful = subst (λ (p : Picture g.row.W). IsLawful g.row.LIVE plan (names_at g.row.K g.row.LIVE plan v) v p) (sym c.deref-2.ensures) inv.image.lawful in
    let sent = c.lookup-index.ensures g.row.LIVE plan (names_at g.row.K g.row.LIVE plan v) v weighted lawful in
    let named = subst (λ (names : List (Target g.row.W × ℕ)). IsSent (λ k. target_at names k) c.lookup-index.result (answer_at g.row.LIVE plan v c.args.addr.now c.args.flow)) (sym inv.naming) sent in
    subst (λ (f : Followed g.row.W). c.sent_to.result ≡ answer_at g.row.LIVE f.plan (version_before g.row.LIVE f.plan f.commands) c.args.addr.now c.args.flow) c.self.view_is
    (c.sent_to.ensures _ named)
