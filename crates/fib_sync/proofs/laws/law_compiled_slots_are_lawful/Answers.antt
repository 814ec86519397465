use Rattle.fib_sync.proofs.LawfulLemmas.{compiled_slots_are_lawful}
use Rattle.fib_sync.proofs.laws.law_compiled_slots_are_lawful.Goals as goal

pub returns : goal.returns
returns g c = compiled_slots_are_lawful g.row.W
