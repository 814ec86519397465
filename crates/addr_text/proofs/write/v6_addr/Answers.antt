use Rattle.std.proofs.Common.{ap, ◌∙◌}
use Rattle.std.specs.Net.Addr.{IsIpv6OfBits}
use Rattle.std.specs.Net.Text.{hex_groups_text}
use Rattle.addr_text.specs.Address.{colon_hex_of}
use Rattle.addr_text.proofs.write.v6_addr.Goals as goal

pub returns : goal.returns
unfolding IsIpv6OfBits colon_hex_of
returns g c = ap hex_groups_text c.from_bits.ensures ∙ ap colon_hex_of c.value.ensures.value
