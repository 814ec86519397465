-- Numbers in a text: decimal digits, with no sign and no leading zero.
use Rattle.std.specs.Prelude.{ℕ, ◌^◌, ◌==◌, ◌&&◌, Bool, false, nat_lt, List, [], ◌∷◌, length, Option, Some, None, if◌then◌else◌}
use Rattle.std.specs.List.{list_all}
use Rattle.std.specs.Char.{is_ascii_digit}
use Rattle.std.specs.Str.Parse.{digits_value}

-- the byte `0`
abbrev pub zero_digit : ℕ
zero_digit = 48

-- a `0` alone, or digits that begin with another
abbrev pub is_numeral : List ℕ → Bool
is_numeral [] = false
is_numeral (first ∷ rest) =
    if first == zero_digit then length rest == 0 else list_all is_ascii_digit (first ∷ rest)

-- the number below 2 ^ 32 that the word writes
unfoldable pub number_of : List ℕ → Option ℕ
number_of word =
    if is_numeral word && nat_lt (digits_value 10 word) (2 ^ 32) then Some (digits_value 10 word)
    else None
