-- A numeral is a text, and the standard reader reads its value.
use Rattle.std.proofs.Common.{◌≡◌, true, ◌∙◌, rules}
use Rattle.addr_text.specs.Number.{is_numeral, number_of}
use Rattle.addr_text.proofs.NumberLemmas.{number_of-parsed, IsUtf8-from_numeral}
use Rattle.addr_text.proofs.number.numeral_value.Goals as goal

pub returns-then-not-is_numeral : goal.returns-then-not-is_numeral
unfolding number_of
returns-then-not-is_numeral c = search rules

pub returns-in-Ok : goal.returns-in-Ok
returns-in-Ok c =
    let numeral : is_numeral c.args.text.now ≡ true = cc in
    c.ok.ensures.value ∙ number_of-parsed c.args.text.now _ numeral (rw c.in-Ok.ensures.cases.0 at c.parse.ensures.value.0)

pub returns-in-Err : goal.returns-in-Err
returns-in-Err c =
    let numeral : is_numeral c.args.text.now ≡ true = cc in
    absurd (c.in-Err.ensures.cases.0 (IsUtf8-from_numeral c.args.text.now numeral))
