-- Once the control was asked, more is known than of the commands taken.
use Rattle.std.proofs.Common.{◌∙◌, ◌<◌, length, subst, sym}
use Rattle.rib_store.specs.Plan.{Planned}
use Rattle.replay_run.specs.Family.{Followed, known_of}
use Rattle.replay_run.proofs.FamilyLemmas.{ahead_last, known_more}
use Rattle.replay_run.proofs.family.Family.look_ahead.Goals as goal

pub returns-then-is_asked-clause-known : goal.returns-then-is_asked-clause-known
returns-then-is_asked-clause-known g c =
    let i = c.self.inside in
    let inv = c.self.invariant in
    subst (λ (f : Followed g.row.W). f.commands < length f.plan.commands → f.commands < f.known) c.self.view_is
    (λ more. known_more g.row.K g.row.LIVE i.control inv.control i.commands i.ahead inv.ahead (sym c.is_asked.ensures ∙ c.if-is_asked.true) more)

pub returns-clause-known : goal.returns-clause-known
returns-clause-known g c =
    let i = c.self.inside in
    let inv = c.self.invariant in
    let e = c.in_ok-self-inside.ensures in
    let last = ahead_last g.row.K g.row.LIVE i.control inv.control i.commands i.ahead inv.ahead (sym c.is_asked.ensures ∙ c.if-is_asked.false) in
    let there = known_more g.row.K g.row.LIVE c.ask.new.control e.control i.commands c.in_ok-self-inside.field-0 (e.ahead i.commands last) e.asked in
    subst (λ (f : Followed g.row.W). f.commands < length f.plan.commands → f.commands < known_of c.ask.new.control i.commands c.in_ok-self-inside.field-0) c.self.view_is
    (λ more. there (subst (λ (p : Planned g.row.W). i.commands < length p.commands) (sym e.plan) more))
