use Rattle.rib_store.proofs.RowLemmas.{tables_are_spread}
use Rattle.rib_store.proofs.laws.law_tables_are_spread.Goals as goal

pub returns : goal.returns
returns g c = tables_are_spread g.row.W
