-- The texts of addresses, prefixes and numbers are words, and no options.
use Rattle.std.proofs.Common.{◌≡◌, ◌∙◌, ◌&&◌, ◌||◌, ℕ, ◌^◌, ◌<◌, Bool, true, false, nat_le, List, [], ◌∷◌, ◌++◌, Option, Some, None, length, codes, decimal, inl, inr, refl, sym, ap, subst, arith, lt-ltb}
use Rattle.std.specs.List.{list_all}
use Rattle.std.specs.Str.{bytes_eq}
use Rattle.std.specs.Char.{is_ascii_digit}
use Rattle.std.specs.Int.{w32, w128, to_be_bytes}
use Rattle.std.specs.Net.Addr.{segments_of}
use Rattle.std.specs.Net.Reader.{read_ipv4, read_ipv6, read_segments, read_segment, read_octet, read_number}
use Rattle.std.proofs.lemmas.Bool.{and_parts, both_ways, false_from_ne_true}
use Rattle.std.proofs.lemmas.Bool.Decides.{nat_tests}
use Rattle.std.proofs.lemmas.Fmt.{decimal_nonempty, digits_decimal}
use Rattle.std.proofs.lemmas.List.Elements.{All-weaker}
use Rattle.std.proofs.lemmas.List.Folds.{list_all-append}
use Rattle.std.proofs.lemmas.List.Sums.{list_all-from_AllPass}
use Rattle.std.proofs.lemmas.Slice.Eq.{bytes_eq-Decides}
use Rattle.std.proofs.NetLemmas.Alphabet.{IsDigitOrDot, IsHexOrColon, All-ipv4_text, All-hex_groups_text}
use Rattle.prefix_width.specs.Prefix.{Block, IsBlock}
use Rattle.addr_text.specs.Address.{IsFamilyWidth, ipv4_of, ipv6_of, address_text, dotted_of, colon_hex_of}
use Rattle.addr_text.specs.PrefixText.{prefix_text}
use Rattle.addr_text.proofs.AddressLemmas.{reads_back_ipv4, reads_back_ipv6, groups_fit}
use Rattle.addr_text.proofs.NumberLemmas.{AreDigits, digits_model}
use Rattle.addr_text.proofs.OctetLemmas.{bytes_high_first_fit}
use Rattle.route_lang.specs.Text.{is_some_word}
use Rattle.route_lang.specs.Grammar.{begins_with_dash}
use Rattle.route_lang.proofs.WordsLemmas.{is_solid, is_word}

-- ---- bytes

-- the bytes that the texts of addresses are made of
abbrev is_address_byte : ℕ → Bool
is_address_byte b = (nat_le 46 b && nat_le b 58) || (nat_le 97 b && nat_le b 102)

digit_or_dot : (b : ℕ) → IsDigitOrDot b → is_address_byte b ≡ true
digit_or_dot b is = elim is [ inl digit ↦ grind (arith, nat_tests) | inr dot ↦ grind (arith, nat_tests) ]

hex_or_colon : (b : ℕ) → IsHexOrColon b → is_address_byte b ≡ true
hex_or_colon b is = elim is [ inl digit ↦ grind (arith, nat_tests) | inr letter ↦ grind (arith, nat_tests) ]

bytes_32 : (a : ℕ) → list_all is_address_byte (dotted_of a) ≡ true
unfolding dotted_of
bytes_32 a =
    list_all-from_AllPass is_address_byte (dotted_of a)
    (All-weaker IsDigitOrDot (λ b. is_address_byte b ≡ true) digit_or_dot (dotted_of a) (All-ipv4_text (to_be_bytes w32 a) (bytes_high_first_fit 4 a)))

bytes_128 : (a : ℕ) → list_all is_address_byte (colon_hex_of a) ≡ true
unfolding colon_hex_of
bytes_128 a =
    list_all-from_AllPass is_address_byte (colon_hex_of a)
    (All-weaker IsHexOrColon (λ b. is_address_byte b ≡ true) hex_or_colon (colon_hex_of a) (All-hex_groups_text (segments_of (to_be_bytes w128 a)) (groups_fit a)))

address_bytes : (w a : ℕ) → IsFamilyWidth w → list_all is_address_byte (address_text w a) ≡ true
address_bytes w a family =
    let P : ℕ → Type 0 = λ w. list_all is_address_byte (address_text w a) ≡ true in
    elim family [ inl e ↦ subst P (sym e) (bytes_32 a) | inr e ↦ subst P (sym e) (bytes_128 a) ]

-- ---- no text is empty

no_ipv4 : ipv4_of [] ≡ None
unfolding ipv4_of read_ipv4 read_octet read_number
no_ipv4 = refl

no_ipv6 : ipv6_of [] ≡ None
unfolding ipv6_of read_ipv6 read_segments read_segment read_ipv4 read_octet read_number
no_ipv6 = refl

some_by : (read : List ℕ → Option ℕ) (word : List ℕ) (a : ℕ) → read [] ≡ None → read word ≡ Some a → is_some_word word ≡ true
some_by read [] a none e = cc
some_by read (b ∷ word) a none e = lt-ltb 0 (length (b ∷ word)) (omega arith)

some_address : (w a : ℕ) → IsFamilyWidth w → a < 2 ^ w → is_some_word (address_text w a) ≡ true
some_address w a family fits =
    let P : ℕ → Type 0 = λ w. a < 2 ^ w → is_some_word (address_text w a) ≡ true in
    elim family [
      | inl e ↦ subst P (sym e) (λ fits. some_by ipv4_of (dotted_of a) a no_ipv4 (reads_back_ipv4 a fits)) fits
      | inr e ↦ subst P (sym e) (λ fits. some_by ipv6_of (colon_hex_of a) a no_ipv6 (reads_back_ipv6 a fits)) fits
    ]

-- ---- words that are no options

-- a word that is an option of no command
pub record IsBareWord (word : List ℕ) : Type 0 where
  pub one : is_word word ≡ true
  pub no_dash : begins_with_dash word ≡ false
  pub no_flow : bytes_eq word (codes "flow") ≡ false

address_solid : (b : ℕ) → is_address_byte b ≡ true → is_solid b ≡ true
address_solid b e = grind (arith, nat_tests)

all_solid : (test : ℕ → Bool) → ((b : ℕ) → test b ≡ true → is_solid b ≡ true) → (word : List ℕ) → list_all test word ≡ true → list_all is_solid word ≡ true
all_solid test solid [] e = refl
all_solid test solid (b ∷ word) e =
    let parts = and_parts (test b) (list_all test word) e in
    let later = all_solid test solid word parts.1 in
    rw (solid b parts.0, later) refl

no_dash_in : (word : List ℕ) → list_all is_address_byte word ≡ true → begins_with_dash word ≡ false
no_dash_in [] e = refl
no_dash_in (b ∷ word) e = let first : is_address_byte b ≡ true = (and_parts (is_address_byte b) (list_all is_address_byte word) e).0 in grind (arith, nat_tests)

no_flow_in : (word : List ℕ) → list_all is_address_byte word ≡ true → bytes_eq word (codes "flow") ≡ false
no_flow_in word e =
    false_from_ne_true (bytes_eq word (codes "flow")) λ same.
    let it : word ≡ codes "flow" = (bytes_eq-Decides word (codes "flow")).0 same in
    both_ways (list_all is_address_byte word) (ap (list_all is_address_byte) it) e

-- the text of an address
pub address_is_bare : (w a : ℕ) → IsFamilyWidth w → a < 2 ^ w → IsBareWord (address_text w a)
address_is_bare w a family fits =
    let bytes = address_bytes w a family in
    let some = some_address w a family fits in
    let solid = all_solid is_address_byte address_solid (address_text w a) bytes in
    record { one = rw (some, solid) refl; no_dash = no_dash_in (address_text w a) bytes; no_flow = no_flow_in (address_text w a) bytes }

digit_solid : (b : ℕ) → is_ascii_digit b ≡ true → is_solid b ≡ true
digit_solid b e = grind (arith, nat_tests)

decimal_solid : (n : ℕ) → n < 2 ^ 32 → list_all is_solid (decimal n) ≡ true
decimal_solid n small = let digits : AreDigits (decimal n) = digits_decimal digits_model n (omega arith) in all_solid is_ascii_digit digit_solid (decimal n) digits

-- the digits of a number
pub decimal_is_word : (n : ℕ) → n < 2 ^ 32 → is_word (decimal n) ≡ true
decimal_is_word n small =
    let long = decimal_nonempty n (omega arith) in
    let some : is_some_word (decimal n) ≡ true = lt-ltb 0 (length (decimal n)) long in
    let solid = decimal_solid n small in
    rw (some, solid) refl

no_dash_digits : (word : List ℕ) → list_all is_ascii_digit word ≡ true → begins_with_dash word ≡ false
no_dash_digits [] e = refl
no_dash_digits (b ∷ word) e = let first : is_ascii_digit b ≡ true = (and_parts (is_ascii_digit b) (list_all is_ascii_digit word) e).0 in grind (arith, nat_tests)

pub digits_no_dash : (n : ℕ) → n < 2 ^ 32 → begins_with_dash (decimal n) ≡ false
digits_no_dash n small = let digits : AreDigits (decimal n) = digits_decimal digits_model n (omega arith) in no_dash_digits (decimal n) digits

dash_in_front : (front rest : List ℕ) → is_some_word front ≡ true → begins_with_dash front ≡ false → begins_with_dash (front ++ rest) ≡ false
dash_in_front [] rest some e = cc
dash_in_front (b ∷ front) rest some e = e

some_in_front : (front rest : List ℕ) → is_some_word front ≡ true → is_some_word (front ++ rest) ≡ true
some_in_front [] rest some = cc
some_in_front (b ∷ front) rest some = lt-ltb 0 (length (b ∷ (front ++ rest))) (omega arith)

-- the text of a prefix is a word, and begins with no dash
pub record IsPrefixWord (word : List ℕ) : Type 0 where
  pub one : is_word word ≡ true
  pub no_dash : begins_with_dash word ≡ false

pub prefix_is_word : (w : ℕ) (b : Block) → IsFamilyWidth w → IsBlock w b → IsPrefixWord (prefix_text w b)
prefix_is_word w b family is =
    let front = address_text w b.base in
    let rest = codes "/" ++ decimal b.len in
    let some = some_address w b.base family is.3 in
    let bytes = address_bytes w b.base family in
    let solid = all_solid is_address_byte address_solid front bytes in
    let len : b.len < 2 ^ 32 = omega (arith, is.1, is.2) in
    let solid_len = decimal_solid b.len len in
    let all : list_all is_solid (front ++ rest) ≡ true = list_all-append is_solid front rest ∙ rw (solid, solid_len) refl in
    let long = some_in_front front rest some in
    record { one = rw (long, all) refl; no_dash = dash_in_front front rest some (no_dash_in front bytes) }
