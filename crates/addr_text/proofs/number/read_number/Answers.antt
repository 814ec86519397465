use Rattle.addr_text.proofs.NumberLemmas.{number_of_iff_decimal}
use Rattle.addr_text.proofs.number.read_number.Goals as goal

pub returns-clause-decimal : goal.returns-clause-decimal
returns-clause-decimal c = λ n small. rw c.numeral_value.ensures (number_of_iff_decimal c.args.text.now n small)
