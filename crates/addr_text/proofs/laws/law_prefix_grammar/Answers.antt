use Rattle.addr_text.proofs.PrefixGrammarLemmas.{reads_prefix}
use Rattle.addr_text.proofs.laws.law_prefix_grammar.Goals as goal

pub returns : goal.returns
returns c = reads_prefix
