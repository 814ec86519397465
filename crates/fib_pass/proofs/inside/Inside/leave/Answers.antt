use Rattle.std.proofs.Common.{refl}
use Rattle.fib_pass.proofs.PassLemmas.{pass_moved}
use Rattle.fib_pass.proofs.inside.Inside.leave.Goals as goal

pub invariant_of-result : goal.invariant_of-result
invariant_of-result g c = (refl, pass_moved _ c.self.inside.standing.seat _ _ (λ i. (c.leave.ensures.seat i).key) (λ i. (c.leave.ensures.seat i).own.hits) c.self.invariant)
