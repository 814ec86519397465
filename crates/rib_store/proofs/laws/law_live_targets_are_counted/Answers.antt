use Rattle.rib_store.proofs.LawLemmas.{live_targets_are_counted}
use Rattle.rib_store.proofs.laws.law_live_targets_are_counted.Goals as goal

pub returns : goal.returns
returns g c = live_targets_are_counted g.row.W
