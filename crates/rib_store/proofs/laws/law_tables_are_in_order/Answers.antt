use Rattle.rib_store.proofs.RowLemmas.{tables_are_in_order}
use Rattle.rib_store.proofs.laws.law_tables_are_in_order.Goals as goal

pub returns : goal.returns
returns g c = tables_are_in_order g.row.W
