use Rattle.addr_text.proofs.PrefixTextLemmas.{reads_back_prefix}
use Rattle.addr_text.proofs.laws.law_prefix_read_back.Goals as goal

pub returns : goal.returns
returns c = reads_back_prefix
