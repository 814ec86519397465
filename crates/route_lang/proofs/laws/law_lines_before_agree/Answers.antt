use Rattle.route_lang.proofs.LawLemmas.{lines_before_agree}
use Rattle.route_lang.proofs.laws.law_lines_before_agree.Goals as goal

pub returns : goal.returns
returns c = lines_before_agree
