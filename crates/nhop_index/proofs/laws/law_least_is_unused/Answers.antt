use Rattle.nhop_index.proofs.LeastLemmas.{least_is_unused}
use Rattle.nhop_index.proofs.laws.law_least_is_unused.Goals as goal

pub returns : goal.returns
returns c = least_is_unused
