-- The image of the plan's last version is at hand, or the control gives it.
use Rattle.std.proofs.Common.{◌≡◌, ◌∙◌, length, ap, subst, sym}
use Rattle.std.specs.Arc.{arc_value}
use Rattle.rib_store.specs.Plan.{Planned}
use Rattle.engine_set.specs.Engine.{kind_of}
use Rattle.engine_set.specs.Image.{Picture}
use Rattle.plan_cut.specs.PlanCourse.{version_before}
use Rattle.fib_sync.specs.Control.{Advances, IsImage}
use Rattle.fib_sync.specs.declared.control.Advance.{Advance}
use Rattle.replay_run.specs.declared.family.Ahead.{Ahead}
use Rattle.replay_run.specs.declared.family.Last.{Last}
use Rattle.replay_run.specs.Family.{Followed, IsAhead, IsLast}
use Rattle.replay_run.proofs.FamilyLemmas.{last_ahead, last_made, next_given, none_given}
use Rattle.replay_run.proofs.family.Family.finish.Goals as goal

pub returns-in-Given : goal.returns-in-Given
returns-in-Given g c =
    let i = c.self.inside in
    let inv = c.self.invariant in
    let all = subst (λ (f : Followed g.row.W). f.commands ≡ length f.plan.commands) (sym c.self.view_is) c.requires in
    let given = subst (λ (a : Ahead g.row.W). IsAhead g.row.LIVE i.control i.commands a) c.in-Given.is inv.ahead in
    let last = last_ahead g.row.K g.row.LIVE i.control inv.control i.commands (arc_value c.in-Given.ahead) all given in
    let of : c.of.result ≡ record { version = (arc_value c.in-Given.ahead).version; routes = (arc_value c.in-Given.ahead).routes; kind = kind_of (arc_value c.in-Given.ahead).engine } =
    c.of.ensures ∙ ap (λ (p : Picture g.row.W). let l : Last = record { version = p.version; routes = p.routes; kind = kind_of p.engine } in l) c.deref.ensures in
    subst (λ (f : Followed g.row.W). IsLast g.row.LIVE f.plan c.of.result) c.self.view_is (subst (IsLast g.row.LIVE i.control.plan) (sym of) last)

pub returns-in-Finished : goal.returns-in-Finished
returns-in-Finished g c =
    let i = c.self.inside in
    let inv = c.self.invariant in
    let none = subst (λ (a : Ahead g.row.W). IsAhead g.row.LIVE i.control i.commands a) c.in-Finished.is inv.ahead in
    let last = last_made g.row.K g.row.LIVE i.control inv.control i.commands (arc_value i.image) none inv.image in
    let of : c.of-in-Finished.result ≡ record { version = (arc_value i.image).version; routes = (arc_value i.image).routes; kind = kind_of (arc_value i.image).engine } =
    c.of-in-Finished.ensures ∙ ap (λ (p : Picture g.row.W). let l : Last = record { version = p.version; routes = p.routes; kind = kind_of p.engine } in l) c.deref-in-Finished.ensures in
    subst (λ (f : Followed g.row.W). IsLast g.row.LIVE f.plan c.of-in-Finished.result) c.self.view_is (subst (IsLast g.row.LIVE i.control.plan) (sym of) last)

pub returns-in-Next : goal.returns-in-Next
returns-in-Next g c =
    let i = c.self.inside in
    let inv = c.self.invariant in
    let new = c.advance.new.self in
    let e = c.in_ok-next-in-Unasked.ensures in
    let all = subst (λ (f : Followed g.row.W). f.commands ≡ length f.plan.commands) (sym c.self.view_is) c.requires in
    let unasked = subst (λ (a : Ahead g.row.W). IsAhead g.row.LIVE i.control i.commands a) c.in-Unasked.is inv.ahead in
    let gives = subst (λ (a : Advance g.row.W). Advances g.row.K g.row.LIVE i.control new a) c.in-Next.is e.advances in
    let given = next_given g.row.K g.row.LIVE i.control new i.commands (arc_value c.in-Next.next) e.control e.plan gives unasked in
    let there = subst (λ (p : Planned g.row.W). i.commands ≡ length p.commands) (sym e.plan) all in
    let last = last_ahead g.row.K g.row.LIVE new e.control i.commands (arc_value c.in-Next.next) there given in
    let of : c.of-in-Next.result ≡ record { version = (arc_value c.in-Next.next).version; routes = (arc_value c.in-Next.next).routes; kind = kind_of (arc_value c.in-Next.next).engine } =
    c.of-in-Next.ensures ∙ ap (λ (p : Picture g.row.W). let l : Last = record { version = p.version; routes = p.routes; kind = kind_of p.engine } in l) c.deref-in-Next.ensures in
    subst (λ (f : Followed g.row.W). IsLast g.row.LIVE f.plan c.of-in-Next.result) c.self.view_is
    (subst (λ (p : Planned g.row.W). IsLast g.row.LIVE p c.of-in-Next.result) e.plan (subst (IsLast g.row.LIVE new.plan) (sym of) last))

pub returns : goal.returns
returns g c =
    let i = c.self.inside in
    let inv = c.self.invariant in
    let new = c.advance.new.self in
    let e = c.in_ok-next-in-Unasked.ensures in
    let unasked = subst (λ (a : Ahead g.row.W). IsAhead g.row.LIVE i.control i.commands a) c.in-Unasked.is inv.ahead in
    let done = subst (λ (a : Advance g.row.W). Advances g.row.K g.row.LIVE i.control new a) c.in-Finished-2.is e.advances in
    let none = none_given g.row.K g.row.LIVE i.control new i.commands e.plan done unasked in
    let image = subst (λ (p : Planned g.row.W). IsImage g.row.K g.row.LIVE p (version_before g.row.LIVE p i.commands) (arc_value i.image)) (sym e.plan) inv.image in
    let last = last_made g.row.K g.row.LIVE new e.control i.commands (arc_value i.image) none image in
    let of : c.of-in-Finished-2.result ≡ record { version = (arc_value i.image).version; routes = (arc_value i.image).routes; kind = kind_of (arc_value i.image).engine } =
    c.of-in-Finished-2.ensures ∙ ap (λ (p : Picture g.row.W). let l : Last = record { version = p.version; routes = p.routes; kind = kind_of p.engine } in l) c.deref-in-Finished-2.ensures in
    subst (λ (f : Followed g.row.W). IsLast g.row.LIVE f.plan c.of-in-Finished-2.result) c.self.view_is
    (subst (λ (p : Planned g.row.W). IsLast g.row.LIVE p c.of-in-Finished-2.result) e.plan (subst (IsLast g.row.LIVE new.plan) (sym of) last))
