use Rattle.rib_store.proofs.LawLemmas.{numbers_differ}
use Rattle.rib_store.proofs.laws.law_numbers_differ.Goals as goal

pub returns : goal.returns
returns g c = numbers_differ g.row.W
