-- A numeral is the decimal text of its value.
use Rattle.std.proofs.Common.{◌≡◌, ◌↔◌, ℕ, suc, zero, ◌<◌, ◌^◌, ◌&&◌, Bool, true, false, cond, nat_eq, nat_lt, List, [], ◌∷◌, length, get_or, Some, None, Result, Ok, Err, refl, sym, lit<, arith, rules, decimal}
use Rattle.std.proofs.lemmas.Bool.{eqb-true, eqb-false, eq-eqb, ltb-true, lt-ltb, and_parts}
use Rattle.std.proofs.lemmas.Option.{cond_some}
use Rattle.std.proofs.lemmas.Str.{IsUtf8-from_ascii}
use Rattle.std.proofs.lemmas.Str.Parse.{IsNumeralModel, numerals_by_value, parse_digits}
use Rattle.std.proofs.lemmas.Fmt.{IsAscii-from_digits, decimal-digits_value, digits_decimal, digits_value-decimal, decimal_nonempty, first_decimal, decimal_digit}
use Rattle.std.specs.List.{list_all}
use Rattle.std.specs.Char.{is_ascii_digit}
use Rattle.std.specs.Result.{OkIff, result_ok}
use Rattle.std.specs.Str.{IsUtf8}
use Rattle.std.specs.Str.Parse.{digits_value, ParsesUnsigned}
use Rattle.addr_text.specs.Number.{is_numeral, number_of}

abbrev pub AreDigits : List ℕ → Type 0
AreDigits word = list_all is_ascii_digit word ≡ true

pub digits_model : IsNumeralModel AreDigits (digits_value 10)
digits_model = numerals_by_value AreDigits (search rules)

-- what the test of a numeral finds
pub record Numeral (word : List ℕ) : Type 0 where
  pub some : 0 < length word
  pub alone : get_or word 0 0 ≡ 48 → length word ≡ 1
  pub digits : AreDigits word

-- ---- the test

begins : (digit : ℕ) (rest : List ℕ) (t : Bool) → nat_eq digit 48 ≡ t
    → cond t (nat_eq (length rest) 0) (list_all is_ascii_digit (digit ∷ rest)) ≡ true → Numeral (digit ∷ rest)
begins digit [] true is_zero e = record {
  some = omega arith;
  alone = λ _. refl;
  digits = rw (eqb-true digit 48 is_zero) refl;
}
begins digit (second ∷ rest) true is_zero e = absurd (omega (arith, eqb-true (length (second ∷ rest)) 0 e))
begins digit rest false not_zero e = record {
  some = omega arith;
  alone = λ is_zero. absurd (eqb-false digit 48 not_zero is_zero);
  digits = e;
}

pub Numeral-from_test : (word : List ℕ) → is_numeral word ≡ true → Numeral word
Numeral-from_test [] e = cc
Numeral-from_test (digit ∷ rest) e = begins digit rest (nat_eq digit 48) refl e

passes : (digit : ℕ) (rest : List ℕ) (t : Bool) → nat_eq digit 48 ≡ t → Numeral (digit ∷ rest)
    → cond t (nat_eq (length rest) 0) (list_all is_ascii_digit (digit ∷ rest)) ≡ true
passes digit rest true is_zero is =
    let one : length (digit ∷ rest) ≡ 1 = is.alone (eqb-true digit 48 is_zero) in
    eq-eqb (length rest) 0 (omega arith)
passes digit rest false not_zero is = is.digits

pub test_from_Numeral : (word : List ℕ) → Numeral word → is_numeral word ≡ true
test_from_Numeral [] is = absurd (omega (arith, is.some))
test_from_Numeral (digit ∷ rest) is = passes digit rest (nat_eq digit 48) refl is

pub IsUtf8-from_numeral : (word : List ℕ) → is_numeral word ≡ true → IsUtf8 word
IsUtf8-from_numeral word e =
    IsUtf8-from_ascii word (IsAscii-from_digits word (digits_model.to word (Numeral-from_test word e).digits))

-- ---- the standard reader at a numeral

refuses : (v : ℕ) (small : Bool) → nat_lt v (2 ^ 32) ≡ small → (v < 2 ^ 32 → ⊥) → None ≡ cond small (Some v) None
refuses v true e large = absurd (large (ltb-true v (2 ^ 32) e))
refuses v false e large = refl

reads : {E : Type 0} (len v : ℕ) (r : Result ℕ E) → 0 < len → OkIff r ((0 < len) × (v < 2 ^ 32)) v
    → result_ok r ≡ cond (nat_lt v (2 ^ 32)) (Some v) None
reads len v (Ok n) some h = rw (lt-ltb v (2 ^ 32) h.0.1, h.1) refl
reads len v (Err e) some h = refuses v (nat_lt v (2 ^ 32)) refl (λ small. h (some, small))

-- what the standard reader answers at a numeral is its number
pub number_of-parsed : {E : Type 0} (word : List ℕ) (r : Result ℕ E) → is_numeral word ≡ true → ParsesUnsigned 32 10 word r
    → result_ok r ≡ number_of word
unfolding number_of
number_of-parsed word r e parsed =
    let is = Numeral-from_test word e in
    rw e (reads (length word) (digits_value 10 word) r is.some (parse_digits digits_model 32 word r parsed is.digits))

-- ---- numbers and their decimal texts

pub decimal-number_of : (word : List ℕ) (n : ℕ) → number_of word ≡ Some n → word ≡ decimal n
unfolding number_of
decimal-number_of word n e =
    let found = cond_some (is_numeral word && nat_lt (digits_value 10 word) (2 ^ 32)) (digits_value 10 word) n e in
    let tests = and_parts (is_numeral word) (nat_lt (digits_value 10 word) (2 ^ 32)) found.0 in
    let is = Numeral-from_test word tests.0 in
    let small = ltb-true (digits_value 10 word) (2 ^ 32) tests.1 in
    rw (← found.1) (sym (decimal-digits_value digits_model word is.digits is.some is.alone (omega arith)))

-- the decimal text of a number is a numeral
alone_decimal : (n : ℕ) → n < 2 ^ 32 → get_or (decimal n) 0 0 ≡ 48 → length (decimal n) ≡ 1
alone_decimal zero small e = rw (decimal_digit 0 (lit< tt)) refl
alone_decimal (suc n) small e = absurd (omega (arith, first_decimal (suc n) (omega arith) (omega arith)))

Numeral-decimal : (n : ℕ) → n < 2 ^ 32 → Numeral (decimal n)
Numeral-decimal n small = record {
  some = decimal_nonempty n (omega arith);
  alone = alone_decimal n small;
  digits = digits_decimal digits_model n (omega arith);
}

pub number_of-decimal : (n : ℕ) → n < 2 ^ 32 → number_of (decimal n) ≡ Some n
unfolding number_of
number_of-decimal n small =
    let value = digits_value-decimal digits_model n (omega arith) in
    rw (test_from_Numeral (decimal n) (Numeral-decimal n small), value, lt-ltb n (2 ^ 32) small) refl

pub number_of_iff_decimal : (word : List ℕ) (n : ℕ) → n < 2 ^ 32 → (number_of word ≡ Some n) ↔ (word ≡ decimal n)
number_of_iff_decimal word n small = (decimal-number_of word n, λ e. rw e (number_of-decimal n small))
