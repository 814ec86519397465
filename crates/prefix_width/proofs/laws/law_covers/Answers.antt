use Rattle.prefix_width.proofs.RangeLemmas.{covers_is_inclusion}
use Rattle.prefix_width.proofs.laws.law_covers.Goals as goal

pub returns : goal.returns
returns c = covers_is_inclusion
