use Rattle.addr_text.proofs.AddressLemmas.{reads_ipv4}
use Rattle.addr_text.proofs.laws.law_ipv4_grammar.Goals as goal

pub returns : goal.returns
returns c = reads_ipv4
