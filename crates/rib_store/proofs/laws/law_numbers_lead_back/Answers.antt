use Rattle.rib_store.proofs.LawLemmas.{numbers_lead_back}
use Rattle.rib_store.proofs.laws.law_numbers_lead_back.Goals as goal

pub returns : goal.returns
returns g c = numbers_lead_back g.row.W
