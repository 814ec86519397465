use Rattle.std.proofs.Common.{sym, ◌∙◌}
use Rattle.addr_text.proofs.PrefixGrammarLemmas.{reads_prefix}
use Rattle.addr_text.proofs.read.read_prefix.Goals as goal

pub returns-clause-grammar : goal.returns-clause-grammar
returns-clause-grammar g c b =
    let reads = reads_prefix g.row.W c.args.text.now b c.requires in
    (λ e. reads.0 (sym c.prefix_of.ensures ∙ e), λ is. c.prefix_of.ensures ∙ reads.1 is)
