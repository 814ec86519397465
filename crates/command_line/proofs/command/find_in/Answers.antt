use Rattle.command_line.proofs.NumberLemmas.{numbers_found}
use Rattle.command_line.proofs.command.find_in.Goals as goal

pub returns-in-Ok-clause-numbers : goal.returns-in-Ok-clause-numbers
returns-in-Ok-clause-numbers c = numbers_found c.in_ok-command.field-0 c.in-Ok.found c.in-Ok.ensures.parsed c.in_ok-command.ensures
