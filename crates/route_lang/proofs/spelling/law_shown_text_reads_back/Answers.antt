use Rattle.route_lang.proofs.ReadBackLemmas.{shown_text_reads_back}
use Rattle.route_lang.proofs.spelling.law_shown_text_reads_back.Goals as goal

pub returns : goal.returns
returns c = shown_text_reads_back
