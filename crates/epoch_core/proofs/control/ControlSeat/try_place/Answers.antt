use Rattle.std.proofs.Common.{lit<, List, map, length, vec_len, ◌≡◌, ◌+◌, ◌<◌, ℕ, suc, true, arith, Some, sym, ap, ◌∙◌, subst}
use Rattle.std.specs.Prelude.{All}
use lib.ListN.{length-map}
use Rattle.std.specs.Arc.{arc_value}
use Rattle.prefix_width.specs.Limits.{last_index}
use Rattle.epoch_core.specs.Fresh.{AreFresh, NamesFit}
use Rattle.epoch_core.proofs.ControlLemmas.{all_map}
use Rattle.epoch_core.proofs.FreshLemmas.{fresh_is, fresh_covers}
use Rattle.epoch_core.specs.declared.view.Role.TheVariants.{Control}
use Rattle.epoch_core.specs.declared.event.Event.TheVariants as event
use Rattle.epoch_core.specs.History.{OneMore}
use Rattle.epoch_core.specs.Step.{may_pass}
use Rattle.epoch_core.specs.Plays.{view}
use Rattle.epoch_core.proofs.control.ControlSeat.try_place.Goals as goal

pub publish-requires : goal.publish-requires
publish-requires g c = let inv = c.loop-self.invariant in
    let self_is = ap (λ s. s.own) c.self-in-loop-self.view_is in
    let seat = c.self-in-loop-self.invariant in
    let stopped = c.loop-self-test.false in
    let version : c.loop-self.self.own.version ≡ c.args.self.now.own.version = ap (λ o. o.version) inv.2 in
    let readers : c.loop-self.self.own.readers ≡ c.args.self.now.own.readers = ap (λ o. o.readers) inv.2 in
    let low = c.requires.room in
    let numbers = seat.numbers in let counts = seat.counts in
    let a = ap (λ o. o.passed) self_is in let b = ap (λ o. o.readers) self_is in
    let handles = c.copies.inside.handles in
    let many : length (map (λ x. arc_value x) handles.items) ≡ length c.args.copies.values = ap (λ x. length x.values) c.copies.view_is in
    let long : vec_len handles ≡ c.args.self.now.own.readers = let k = handles.ok in let q = c.requires.count in omega (arith, length-map handles.items (λ x. arc_value x)) in
    let G : ℕ = last_index g.row.K g.row.LIVE in
    let names = g.T.Lawful.names in
    let pairs : c.deref.result.now ≡ c.args.copies.fresh = c.deref.ensures.value ∙ ap (λ x. x.fresh) c.copies.view_is in
    let are : AreFresh g.row.K (names c.loop-self.self.key) c.loop-self.self.own.version c.deref.result.now =
    subst (λ (u : g.row.Q.Denot × ℕ × List (ℕ × ℕ)). AreFresh g.row.K (names u.0) u.1 u.2) (λ i. (sym inv.1 i, sym version i, sym pairs i)) c.requires.fresh in
    let fit : NamesFit G c.loop-self.self.own.numbers (names c.loop-self.self.key) = subst (λ v. NamesFit G v.own.numbers (names v.key)) c.self-in-loop-self.view_is seat.names_fit in
    let fair : All (λ x. g.T.Lawful.is_lawful c.args.self.now.key (c.args.self.now.own.version + 1) (arc_value x)) handles.items =
    all_map (λ x. g.T.Lawful.is_lawful c.args.self.now.key (c.args.self.now.own.version + 1) x) (λ x. arc_value x) handles.items
    (subst (λ (l : List _). All (λ x. g.T.Lawful.is_lawful c.args.self.now.key (c.args.self.now.own.version + 1) x) l) (sym (ap (λ x. x.values) c.copies.view_is)) c.requires.lawful) in (
      lit< tt,
      (
        (long ∙ sym readers, omega arith),
        (
          subst (λ (u : g.row.Q.Denot × ℕ). All (λ x. g.T.Lawful.is_lawful u.0 (u.1 + 1) (arc_value x)) handles.items) (λ i. (sym inv.1 i, sym version i)) fair,
          (
            omega arith,
            (
              (fit.distinct (c.loop-self.self.own.version + 1), fresh_covers g.row.K c.loop-self.self.own.version (names c.loop-self.self.key) c.deref.result.now are),
              fresh_is g.row.K G c.loop-self.self.own.numbers c.loop-self.self.own.version (names c.loop-self.self.key) c.deref.result.now fit are,
            ),
          ),
        ),
      ),
    )

pub loop-self-preserved : goal.loop-self-preserved
loop-self-preserved g c = let inv = c.loop-self.invariant in let did = c.scan.ensures in let went = c.in_default.ensures in
    let before = c.args.self.now in
    let was = c.loop-self.self in
    let now = c.scan.new.self in
    let on : now.own.passed ≡ was.own.passed + 1 = went.none in
    let scans : now.own.scans ≡ was.own.scans + 1 = ap (λ o. o.scans) did.own in
    let version : was.own.version ≡ before.own.version = ap (λ o. o.version) inv.2 in
    let readers : now.own.readers ≡ was.own.readers = ap (λ o. o.readers) did.own in
    let below = c.loop-self-test.true in
    let self_is = ap (λ s. s.own) c.self-in-loop-self.view_is in
    let count = inv.3 in
    let far = inv.4 in
    let more : was.own.passed < was.own.readers = let n = c.self-in-loop-self.invariant.numbers in let k = c.self-in-loop-self.invariant.counts in let a = ap (λ o. o.passed) self_is in let b = ap (λ o. o.readers) self_is in omega arith in
    let passes = inv.6 in
    let next : before.own.passed + passes.0 ≡ was.own.passed = passes.1 in
    let may : may_pass g.row.K before.own.version now.own.found.1 ≡ true = subst (λ (v : ℕ). may_pass g.row.K v now.own.found.1 ≡ true) version went.passed in
    let one : OneMore was.steps (event.Scan (before.own.passed + passes.0)) now.own.found.1 now.steps = subst (λ (n : ℕ). OneMore was.steps (event.Scan n) now.own.found.1 now.steps) (sym next) did.step.1 in
    let own : now.own ≡ record before.own { passed = now.own.passed; scans = now.own.scans; found = now.own.found } =
    did.own ∙ ((λ i. record (inv.2 i) { scans = was.own.scans + 1; found = now.own.found; passed = now.own.passed }) ∙ (λ i. record before.own { passed = now.own.passed; scans = sym scans i; found = now.own.found })) in (
      did.seat.0 ∙ inv.0,
      did.seat.1 ∙ inv.1,
      own,
      omega arith,
      omega arith,
      omega arith,
      (suc passes.0, omega arith, (now.own.found.1, was.steps, was.own.found, passes.2, may, one, λ i. ((did.step.0 ∙ sym next) i, now.own.found.1))),
    )
