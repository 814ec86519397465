-- The next version is given, or the plan has none.
use Rattle.std.proofs.Common.{◌≡◌, ◌∙◌, ◌+◌, ◌<◌, length, refl, ap, subst, sym, arith, lit<}
use Rattle.std.specs.Arc.{arc_value}
use Rattle.engine_set.specs.Image.{Picture}
use Rattle.rib_store.specs.Plan.{Planned}
use Rattle.plan_cut.specs.PlanCourse.{versions_of}
use Rattle.fib_sync.specs.Control.{CameByEdits, Controlled, rows_at}
use Rattle.fib_sync.specs.Standing.{IsAhead, IsAt, IsByEnd, IsReady, MayWork}
use Rattle.fib_sync.proofs.ControlLemmas.{at_named, at_ran, came_from, finished_is, table_is}
use Rattle.fib_sync.proofs.state.State.advance.Goals as goal

pub returns-then-made-given-clause-advances : goal.returns-then-made-given-clause-advances
returns-then-made-given-clause-advances g c =
    let i = c.self.inside in
    let last = arc_value i.image in
    let at = c.self.invariant.0 in
    let new = c.run_to_version.new.runner in
    let touched = c.run_to_version.new.touched in
    let e = c.in_ok-run_to_version.ensures in
    let g0 : c.version-given.result ≡ last.version = c.version-given.ensures ∙ ap (λ (p : Picture g.row.W). p.version) c.deref.ensures in
    let ahead = subst (λ v. IsAhead g.row.LIVE v new touched) g0 e.ahead in
    let stays = subst (λ v. v < i.runner.made.number → new ≡ i.runner) g0 e.stays in
    let ran = at_ran i.runner new i.touched touched i.numbering i.working last at ahead e.plan e.further stays in
    let number : new.made.number ≡ last.version = sym c.made-made.ensures.number ∙ c.if-made-given.true ∙ g0 in
    let ready = subst (λ v. IsReady v new) g0 e.ready in
    let done = finished_is g.row.LIVE last.version new ahead.run ready number in
    let view = c.self.view_is in
    let plan : new.plan ≡ c.args.self.now.plan = e.plan ∙ ap (λ (x : Controlled g.row.W). x.plan) view in
    record {
      last = ap (λ (p : Planned g.row.W). length (versions_of g.row.LIVE p)) (sym plan) ∙ done.0 ∙ ap (λ (x : Controlled g.row.W). x.image.version + 1) view;
      all = done.1 ∙ ap (λ (p : Planned g.row.W). length p.commands) plan;
      same = ap (λ (x : Controlled g.row.W). x.image) view;
      ended = ap (λ (x : Controlled g.row.W). x.ended) view;
      interrupted = ap (λ (x : Controlled g.row.W). x.interrupted) view;
    }

pub make_next-requires : goal.make_next-requires
make_next-requires g c =
    let i = c.self.inside in
    let last = arc_value i.image in
    let at = c.self.invariant.0 in
    let new = c.run_to_version.new.runner in
    let touched = c.run_to_version.new.touched in
    let e = c.in_ok-run_to_version.ensures in
    let g0 : c.version-given.result ≡ last.version = c.version-given.ensures ∙ ap (λ (p : Picture g.row.W). p.version) c.deref.ensures in
    let ahead = subst (λ v. IsAhead g.row.LIVE v new touched) g0 e.ahead in
    let stays = subst (λ v. v < i.runner.made.number → new ≡ i.runner) g0 e.stays in
    let ran = at_ran i.runner new i.touched touched i.numbering i.working last at ahead e.plan e.further stays in
    let more : last.version < new.made.number = omega (arith, ahead.high, g0, c.made-made.ensures.number, c.if-made-given.false) in
    let number : new.made.number ≡ last.version + 1 = omega (arith, ahead.low, more) in
    let rib = c.rib.ensures.rows ∙ table_is g.row.LIVE new ahead.run (last.version + 1) number (ahead.due more) in
    let names = c.in_ok-name_next.ensures.names new.plan last.version ran.names rib in
    let works = subst (MayWork (rows_at g.row.K g.row.LIVE new.plan last.version) last) (sym c.take.ensures.value) ran.works in
    let named = at_named new touched i.numbering c.name_next.new.self i.working c.take.result last ran more names works in
    let here = subst (λ (p : Picture g.row.W). IsAt new touched c.name_next.new.self c.take.result p × (p.version < new.made.number)) (sym c.deref-2.ensures) (named, more) in
    (lit< tt, (lit< tt, (lit< tt, (lit< tt, (lit< tt, (lit< tt, (here.0, (here.1, (c.in_ok-name_next.ensures.named, c.requires.updater)))))))))

pub invariant_of-self-in_err-working : goal.invariant_of-self-in_err-working
invariant_of-self-in_err-working g c =
    let i = c.self.inside in
    let last = arc_value i.image in
    let at = c.self.invariant.0 in
    let new = c.run_to_version.new.runner in
    let touched = c.run_to_version.new.touched in
    let e = c.in_ok-run_to_version.ensures in
    let g0 : c.version-given.result ≡ last.version = c.version-given.ensures ∙ ap (λ (p : Picture g.row.W). p.version) c.deref.ensures in
    let ahead = subst (λ v. IsAhead g.row.LIVE v new touched) g0 e.ahead in
    let stays = subst (λ v. v < i.runner.made.number → new ≡ i.runner) g0 e.stays in
    let ran = at_ran i.runner new i.touched touched i.numbering i.working last at ahead e.plan e.further stays in
    let more : last.version < new.made.number = omega (arith, ahead.high, g0, c.made-made.ensures.number, c.if-made-given.false) in
    let number : new.made.number ≡ last.version + 1 = omega (arith, ahead.low, more) in
    let rib = c.rib.ensures.rows ∙ table_is g.row.LIVE new ahead.run (last.version + 1) number (ahead.due more) in
    let names = c.in_ok-name_next.ensures.names new.plan last.version ran.names rib in
    let works = subst (MayWork (rows_at g.row.K g.row.LIVE new.plan last.version) last) (sym c.take.ensures.after) tt in
    let named = at_named new touched i.numbering c.name_next.new.self i.working c.take.new.self last ran more names works in
    (named, subst (λ (p : Planned g.row.W). IsByEnd g.row.LIVE p last i.ended) (sym e.plan) c.self.invariant.1)

pub returns-clause-advances : goal.returns-clause-advances
returns-clause-advances g c =
    let i = c.self.inside in
    let last = arc_value i.image in
    let new = c.run_to_version.new.runner in
    let e = c.in_ok-run_to_version.ensures in
    let view = c.self.view_is in
    let next = c.in_ok-working.ensures.next in
    let image = arc_value c.in_ok-working.field-0.image in
    let old : c.deref-2.result.now ≡ c.args.self.now.image = c.deref-2.ensures ∙ ap (λ (x : Controlled g.row.W). x.image) view in
    let plan : new.plan ≡ c.args.self.now.plan = e.plan ∙ ap (λ (x : Controlled g.row.W). x.plan) view in
    record {
      given = next.kept;
      next = next.image.lawful.version ∙ ap (λ (p : Picture g.row.W). p.version + 1) old;
      counted = sym next.count;
      whole = refl;
      came = λ whole.
          came_from i.working (ap (λ (x : Controlled g.row.W). x.interrupted) view ∙ whole)
          (λ work is. (let came = c.in_ok-working.ensures.came work (c.take.ensures.value ∙ is) in
          subst (λ (p : Picture g.row.W). CameByEdits g.row.K g.row.LIVE c.args.self.now.plan p image) old
          (subst (λ (p : Planned g.row.W). CameByEdits g.row.K g.row.LIVE p c.deref-2.result.now image) plan came)));
    }
