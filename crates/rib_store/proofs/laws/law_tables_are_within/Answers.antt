use Rattle.rib_store.proofs.LimitLemmas.{tables_are_within}
use Rattle.rib_store.proofs.laws.law_tables_are_within.Goals as goal

pub returns : goal.returns
returns g c = tables_are_within g.row.W
