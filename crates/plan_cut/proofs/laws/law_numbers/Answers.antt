use Rattle.plan_cut.proofs.ListingLemmas.{number-versions}
use Rattle.plan_cut.proofs.laws.law_numbers.Goals as goal

pub returns : goal.returns
returns c = number-versions
