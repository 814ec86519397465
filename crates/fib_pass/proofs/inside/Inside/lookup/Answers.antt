use Rattle.std.proofs.Common.{sym, ◌∙◌}
use Rattle.fib_pass.proofs.PassLemmas.{pass_counted, reads_moved}
use Rattle.fib_pass.proofs.inside.Inside.lookup.Goals as goal

pub invariant_of-self : goal.invariant_of-self
invariant_of-self g c =
    pass_counted _ c.deref.result.now c.self.inside.standing.seat _ _ _ c.deref.ensures c.if-self-eq-LOOKUPS_MAX.false (λ i. (c.answer_inside-answer.ensures.seat i).seat.key) c.answer_inside-answer.ensures.hits
    c.self.invariant

pub returns-clause-cost : goal.returns-clause-cost
returns-clause-cost g c = λ n reads.
    let key = c.deref.ensures ∙ sym c.self.invariant.keyed ∙ (λ i. (c.self.view_is i).standing.seat.key) in
    c.answer_inside-answer.ensures.cost n (reads_moved g.row.K g.row.LIVE c.deref.result.now c.args.self.now.standing.seat.key _ n key reads)
