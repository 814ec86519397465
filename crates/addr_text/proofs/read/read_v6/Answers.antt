use Rattle.addr_text.proofs.AddressLemmas.{ipv6_of_cases}
use Rattle.addr_text.proofs.read.read_v6.Goals as goal

pub returns-clause-grammar : goal.returns-clause-grammar
returns-clause-grammar c = ipv6_of_cases c.args.text.now c.read_addr.result c.read_addr.ensures
