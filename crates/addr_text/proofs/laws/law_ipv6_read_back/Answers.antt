use Rattle.addr_text.proofs.AddressLemmas.{reads_back_ipv6}
use Rattle.addr_text.proofs.laws.law_ipv6_read_back.Goals as goal

pub returns : goal.returns
returns c = reads_back_ipv6
