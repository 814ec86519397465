use Rattle.std.proofs.Common.{arith}
use Rattle.prefix_width.proofs.PrefixLemmas.{last_fits}
use Rattle.prefix_width.proofs.prefix.Prefix.last.Goals as goal

pub overflow_add-value : goal.overflow_add-value
overflow_add-value g c = omega (arith, last_fits g.row.W (record { base = c.self.inside.addr; len = c.self.inside.len }) _ _ c.self.invariant c.value.ensures.value c.host_mask.ensures)

pub invariant_of-result : goal.invariant_of-result
invariant_of-result g c =
    (c.self.invariant.0, c.self.invariant.1, (last_fits g.row.W (record { base = c.self.inside.addr; len = c.self.inside.len }) _ _ c.self.invariant c.value.ensures.value c.host_mask.ensures).0)
