use Rattle.rib_store.proofs.LimitLemmas.{limits_are_tried}
use Rattle.rib_store.proofs.laws.law_limits_are_tried.Goals as goal

pub returns : goal.returns
returns g c = limits_are_tried g.row.W
