use Rattle.prefix_width.proofs.LongestLemmas.{longest_is}
use Rattle.prefix_width.proofs.laws.law_longest_match.Goals as goal

pub returns : goal.returns
returns g c = λ w a rows. longest_is w rows a
