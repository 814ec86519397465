use Rattle.addr_text.proofs.AddressLemmas.{reads_back_ipv4}
use Rattle.addr_text.proofs.laws.law_ipv4_read_back.Goals as goal

pub returns : goal.returns
returns c = reads_back_ipv4
