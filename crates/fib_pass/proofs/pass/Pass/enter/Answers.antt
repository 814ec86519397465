use Rattle.fib_pass.proofs.PassLemmas.{pass_at, pass_moved}
use Rattle.fib_pass.proofs.pass.Pass.enter.Goals as goal

pub invariant_of-result : goal.invariant_of-result
invariant_of-result g c = pass_moved _ c.in-Some.seat _ _ c.enter.ensures.seat.1 (λ i. (c.enter.ensures.steps i).hits) (pass_at _ _ _ _ c.in-Some.is c.self.invariant.1)
