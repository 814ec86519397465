use Rattle.plan_cut.proofs.ListingLemmas.{get-versions-latest}
use Rattle.plan_cut.proofs.laws.law_versions_listed.Goals as goal

pub returns : goal.returns
returns c = get-versions-latest
