use Rattle.plan_cut.proofs.ListingLemmas.{get-versions-final, length-versions}
use Rattle.plan_cut.proofs.laws.law_last_listed.Goals as goal

pub returns : goal.returns
returns c = λ course. (get-versions-final course, length-versions course)
