-- The standard reader takes exactly the texts of the grammar.
use Rattle.std.proofs.Common.{Some, sym, ap, ◌∙◌}
use Rattle.std.specs.Net.Addr.{ipv4_bits}
use Rattle.addr_text.proofs.AddressLemmas.{ipv4_of-dotted, ipv4_of_none}
use Rattle.addr_text.proofs.read.v4_bits.Goals as goal

pub returns-in-Ok : goal.returns-in-Ok
unfolding ipv4_bits
returns-in-Ok c = ap Some c.to_bits.ensures ∙ sym (ipv4_of-dotted c.args.text.now c.in-Ok.addr.octets c.in-Ok.ensures)

pub returns-in-Err : goal.returns-in-Err
returns-in-Err c = ipv4_of_none c.args.text.now (λ parts h. c.in-Err.ensures (record { octets = parts }) h)
