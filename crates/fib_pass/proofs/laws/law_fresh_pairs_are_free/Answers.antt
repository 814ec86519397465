use Rattle.fib_pass.proofs.FreshLemmas.{fresh_pairs_are_free}
use Rattle.fib_pass.proofs.laws.law_fresh_pairs_are_free.Goals as goal

pub returns : goal.returns
returns g c = fresh_pairs_are_free g.row.W
