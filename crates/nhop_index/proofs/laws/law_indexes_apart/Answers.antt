use Rattle.nhop_index.proofs.LawLemmas.{indexes_apart}
use Rattle.nhop_index.proofs.laws.law_indexes_apart.Goals as goal

pub returns : goal.returns
returns g c = indexes_apart g.row.W
