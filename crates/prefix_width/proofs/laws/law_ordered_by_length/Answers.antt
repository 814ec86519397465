use Rattle.prefix_width.proofs.PrefixLemmas.{ordered_by_length}
use Rattle.prefix_width.proofs.laws.law_ordered_by_length.Goals as goal

pub returns : goal.returns
returns c = ordered_by_length
