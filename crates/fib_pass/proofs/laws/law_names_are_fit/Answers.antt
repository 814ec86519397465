use Rattle.fib_pass.proofs.FreshLemmas.{names_are_fit}
use Rattle.fib_pass.proofs.laws.law_names_are_fit.Goals as goal

pub returns : goal.returns
returns g c = names_are_fit g.row.W
