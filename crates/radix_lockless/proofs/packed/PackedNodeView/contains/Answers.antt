use Rattle.std.proofs.Common.{arith}
use Rattle.std.proofs.Math.Pow.{pow_mono}
use Rattle.radix_lockless.proofs.packed.PackedNodeView.contains.Goals as goal

pub agrees-requires-clause-fits : goal.agrees-requires-clause-fits
agrees-requires-clause-fits g c =
    let fits = pow_mono c.self.invariant.1 in
    let bound = c.value.ensures.bound in
    omega (arith, fits, bound)
