use Rattle.nhop_index.proofs.LawLemmas.{indexes_fit}
use Rattle.nhop_index.proofs.laws.law_indexes_fit.Goals as goal

pub returns : goal.returns
returns g c = indexes_fit g.row.W
