use Rattle.std.proofs.Common.{refl}
use Rattle.fib_pass.proofs.PassLemmas.{pass_at, pass_moved}
use Rattle.fib_pass.proofs.pass.Pass.learn.Goals as goal

pub invariant_of-self : goal.invariant_of-self
invariant_of-self g c = (refl, pass_moved _ c.in-Some.seat _ _ (λ i. (c.learn.ensures i).key) (λ i. (c.learn.ensures i).own.hits) (pass_at _ _ _ _ c.in-Some.is c.self.invariant.1))
