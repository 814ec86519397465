use Rattle.prefix_width.proofs.RangeLemmas.{contains_its_range}
use Rattle.prefix_width.proofs.laws.law_range.Goals as goal

pub returns : goal.returns
returns c = contains_its_range
