use Rattle.nhop_index.proofs.LawLemmas.{nexthops_are_named}
use Rattle.nhop_index.proofs.laws.law_nexthops_are_named.Goals as goal

pub returns : goal.returns
returns g c = nexthops_are_named g.row.W
