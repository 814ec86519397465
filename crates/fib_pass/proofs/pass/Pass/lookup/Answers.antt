use Rattle.std.proofs.Common.{refl, sym, ◌∙◌}
use Rattle.std.specs.Arc.{arc_value}
use Rattle.fib_pass.proofs.PassLemmas.{pass_at, pass_counted, reads_moved, seat_seen, steps_moved}
use Rattle.fib_pass.proofs.pass.Pass.lookup.Goals as goal

pub invariant_of-self : goal.invariant_of-self
invariant_of-self g c = (
  refl,
  pass_counted (arc_value c.self.inside.plan) c.deref.result.now c.in-Some.seat _ _ _ c.deref.ensures c.if-self-eq-LOOKUPS_MAX.false (λ i. (c.answer_once-seat.ensures.seat i).key) c.answer_once-seat.ensures.hits
      (pass_at (arc_value c.self.inside.plan) c.self.inside.seat c.in-Some.seat c.self.inside.lookups (sym c.take.ensures.value ∙ c.in-Some.is) c.self.invariant.1),
)

pub returns-clause-history : goal.returns-clause-history
returns-clause-history g c =
    let seen = seat_seen (arc_value c.self.inside.plan) c.self.inside.seat c.in-Some.seat c.args.self.now c.self.inside.lookups (sym c.take.ensures.value ∙ c.in-Some.is) c.self.view_is in
    let key = c.deref.ensures ∙ sym c.self.invariant.1.keyed ∙ (λ i. (c.self.view_is i).seat.key) in
    steps_moved g.row.K g.row.LIVE c.deref.result.now c.args.self.now.seat.key c.in-Some.seat c.args.self.now.seat _ _ _ _ key seen c.answer_once-seat.ensures.history

pub returns-clause-cost : goal.returns-clause-cost
returns-clause-cost g c = λ n reads.
    let key = c.deref.ensures ∙ sym c.self.invariant.1.keyed ∙ (λ i. (c.self.view_is i).seat.key) in
    c.answer_once-seat.ensures.cost n (reads_moved g.row.K g.row.LIVE c.deref.result.now c.args.self.now.seat.key _ n key reads)
