-- The standard reader takes exactly the texts of the grammar.
use Rattle.std.proofs.Common.{Some, sym, ap, ◌∙◌}
use Rattle.std.specs.Net.Addr.{ipv6_bits}
use Rattle.addr_text.proofs.AddressLemmas.{ipv6_of-colon_hex, ipv6_of_none}
use Rattle.addr_text.proofs.read.v6_bits.Goals as goal

pub returns-in-Ok : goal.returns-in-Ok
unfolding ipv6_bits
returns-in-Ok c = ap Some c.to_bits.ensures ∙ sym (ipv6_of-colon_hex c.args.text.now c.in-Ok.addr.segments c.in-Ok.ensures)

pub returns-in-Err : goal.returns-in-Err
returns-in-Err c = ipv6_of_none c.args.text.now (λ parts h. c.in-Err.ensures (record { segments = parts }) h)
