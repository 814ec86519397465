-- Which texts are numbers that a program takes.
use Rattle.std.specs.Prelude.{◌≤◌, ℕ, List}
use Rattle.std.specs.Str.Parse.{IsNumeral, digits_value, without_leading_plus}

-- the number that decimal digits write, behind a plus or not
abbrev pub number_of : List ℕ → ℕ
number_of text = digits_value 10 (without_leading_plus text)

-- the text is decimal digits, behind a plus or not, of a number from 1 to `most`
abbrev pub IsNumberTo : ℕ → List ℕ → Type 0
IsNumberTo most text = IsNumeral 10 (without_leading_plus text) × (1 ≤ number_of text) × (number_of text ≤ most)
