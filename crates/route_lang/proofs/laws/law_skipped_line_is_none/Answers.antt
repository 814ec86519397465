use Rattle.route_lang.proofs.LawLemmas.{skipped_line_is_none}
use Rattle.route_lang.proofs.laws.law_skipped_line_is_none.Goals as goal

pub returns : goal.returns
returns c = skipped_line_is_none
