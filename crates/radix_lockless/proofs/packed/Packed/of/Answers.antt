use Rattle.std.proofs.Common.{arith}
use Rattle.std.proofs.Math.Pow.{pow_mono}
use Rattle.radix_lockless.proofs.packed.Packed.of.Goals as goal

pub of-requires : goal.of-requires
of-requires g c =
    let fits = pow_mono c.requires in
    let bound = c.value.ensures.bound in
    omega (arith, fits, bound)
