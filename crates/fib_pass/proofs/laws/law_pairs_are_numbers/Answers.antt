use Rattle.fib_pass.proofs.FreshLemmas.{pairs_are_numbers}
use Rattle.fib_pass.proofs.laws.law_pairs_are_numbers.Goals as goal

pub returns : goal.returns
returns g c = pairs_are_numbers g.row.W
