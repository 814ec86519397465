use Rattle.addr_text.proofs.AddressLemmas.{reads_ipv6}
use Rattle.addr_text.proofs.laws.law_ipv6_grammar.Goals as goal

pub returns : goal.returns
returns c = reads_ipv6
