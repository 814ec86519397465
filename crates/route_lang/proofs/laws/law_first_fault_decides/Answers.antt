use Rattle.route_lang.proofs.LawLemmas.{first_fault_decides}
use Rattle.route_lang.proofs.laws.law_first_fault_decides.Goals as goal

pub returns : goal.returns
returns c = first_fault_decides
