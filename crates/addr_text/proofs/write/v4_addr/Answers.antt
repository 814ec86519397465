use Rattle.std.proofs.Common.{ap, ◌∙◌}
use Rattle.std.specs.Net.Addr.{IsIpv4OfBits}
use Rattle.std.specs.Net.Text.{ipv4_text}
use Rattle.addr_text.specs.Address.{dotted_of}
use Rattle.addr_text.proofs.write.v4_addr.Goals as goal

pub returns : goal.returns
unfolding IsIpv4OfBits dotted_of
returns g c = ap ipv4_text c.from_bits.ensures ∙ ap dotted_of c.value.ensures.value
