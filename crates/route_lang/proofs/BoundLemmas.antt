-- The addresses, prefixes and numbers that texts write are within their bounds.
use Rattle.std.proofs.Common.{◌≡◌, ◌&&◌, ℕ, zero, suc, ◌-◌, ◌/◌, ◌^◌, ◌<◌, ◌≤◌, Bool, true, false, cond, nat_lt, nat_le, List, [], ◌∷◌, ◌++◌, Option, Some, None, IfSome, option_and_then, length, replicate, get_or, codes, bytes_eq, lit<, inl, inr, refl, sym, subst, arith}
use Rattle.std.specs.List.{list_any, before_first, after_first}
use Rattle.std.specs.Int.{w32, w128, from_be_bytes}
use Rattle.std.specs.Net.Addr.{octets_of}
use Rattle.std.specs.Net.Grammar.{IsDotted, IsGroup, IsGroupsAfter, IsColonHex}
use Rattle.std.specs.Str.Parse.{digits_value}
use Rattle.std.proofs.Math.Nat.{pow-le-pow_right, div-mul-le_self, mul-mod_left, zero-mod}
use Rattle.std.proofs.lemmas.Bool.{and_parts, ltb-true, leb-true}
use Rattle.std.proofs.lemmas.Nat.{pow_pos}
use Rattle.std.proofs.lemmas.Int.Digits.{digits_value-lt}
use Rattle.std.proofs.lemmas.Option.{cond_some}
use Rattle.prefix_width.specs.Prefix.{IsBlock, masked_block}
use Rattle.addr_text.specs.Address.{IsFamilyWidth, ipv4_of, ipv6_of, address_of}
use Rattle.addr_text.specs.Number.{number_of, is_numeral}
use Rattle.addr_text.specs.PrefixText.{block_of, default_block, slashed_of, bare_of, is_slash, length_of, masked_by}
use Rattle.addr_text.proofs.AddressLemmas.{reads_ipv4, reads_ipv6}
use Rattle.addr_text.proofs.OctetLemmas.{segments_of_fit}

-- ---- IPv4

four_octets : (a b c d : ℕ) → a < 256 → b < 256 → c < 256 → d < 256 → from_be_bytes w32 (a ∷ b ∷ c ∷ d ∷ []) < 2 ^ 32
four_octets a b c d ha hb hc hd = omega arith

ipv4_fits : (text : List ℕ) (a : ℕ) → ipv4_of text ≡ Some a → a < 2 ^ 32
ipv4_fits text a e =
    let (octets, dotted, same) = (reads_ipv4 text a).0 e in
    let fit = dotted.fit in
    rw (same, dotted.value) (four_octets dotted.a dotted.b dotted.c dotted.d fit.0 fit.1 fit.2 fit.3)

-- ---- IPv6

abbrev AllBelow : ℕ → List ℕ → Type 0
AllBelow most xs = (i : ℕ) → get_or xs i 0 < most

below_append : (most : ℕ) (xs ys : List ℕ) → AllBelow most xs → AllBelow most ys → AllBelow most (xs ++ ys)
below_append most [] ys hx hy i = hy i
below_append most (x ∷ xs) ys hx hy zero = hx 0
below_append most (x ∷ xs) ys hx hy (suc i) = below_append most xs ys (λ j. hx (suc j)) hy i

zeros_below : (most n : ℕ) → 0 < most → AllBelow most (replicate n 0)
zeros_below most zero some i = some
zeros_below most (suc n) some zero = some
zeros_below most (suc n) some (suc i) = zeros_below most n some i

group_below : (text : List ℕ) (segment : ℕ) → IsGroup text segment → segment < 2 ^ 16
group_below text segment is =
    let value = digits_value-lt 16 text is.0.0.1 in
    let most : 16 ^ length text ≤ 16 ^ 4 = pow-le-pow_right {n = 16} (lit< tt) {i = length text} {j = 4} is.1 in
    let same : digits_value 16 text ≡ segment = is.0.1 in
    omega arith

dotted_below : (text octets : List ℕ) → IsDotted text octets → AllBelow 256 octets
dotted_below text octets is =
    let P : List ℕ → Type 0 = λ xs. AllBelow 256 xs in
    let fit = is.fit in
    subst P (sym is.value) (four is.a is.b is.c is.d fit.0 fit.1 fit.2 fit.3)
  where
    four : (a b c d : ℕ) → a < 256 → b < 256 → c < 256 → d < 256 → AllBelow 256 (a ∷ b ∷ c ∷ d ∷ [])
    four a b c d ha hb hc hd zero = ha
    four a b c d ha hb hc hd (suc zero) = hb
    four a b c d ha hb hc hd (suc (suc zero)) = hc
    four a b c d ha hb hc hd (suc (suc (suc zero))) = hd
    four a b c d ha hb hc hd (suc (suc (suc (suc i)))) = omega arith

groups_below : (ipv4 : Bool) (lead text segments : List ℕ) → IsGroupsAfter ipv4 lead text segments → AllBelow (2 ^ 16) segments
groups_below ipv4 lead text [] h i = omega arith
groups_below ipv4 lead text (s ∷ segments) (inl h) zero = group_below h.0 s h.3
groups_below ipv4 lead text (s ∷ segments) (inl h) (suc i) = groups_below ipv4 (codes ":") h.1 segments h.4 i
groups_below ipv4 lead text (s ∷ segments) (inr h) i =
    let P : List ℕ → Type 0 = λ xs. AllBelow (2 ^ 16) xs in
    let all : AllBelow (2 ^ 16) (s ∷ segments) = subst P (sym h.5) (segments_of_fit h.1 (dotted_below h.0 h.1 h.4)) in
    all i

colon_hex_below : (text groups : List ℕ) → IsColonHex text groups → AllBelow (2 ^ 16) groups
colon_hex_below text groups (inl whole) = groups_below true [] text groups whole.0
colon_hex_below text groups (inr is) =
    let P : List ℕ → Type 0 = λ xs. AllBelow (2 ^ 16) xs in
    let zeros = replicate (8 - length is.head - length is.tail) 0 in
    let head = groups_below false [] is.head_text is.head is.head_groups in
    let tail = groups_below true [] is.tail_text is.tail is.tail_groups in
    subst P (sym is.value) (below_append (2 ^ 16) (is.head ++ zeros) is.tail (below_append (2 ^ 16) is.head zeros head (zeros_below (2 ^ 16) (8 - length is.head - length is.tail) (lit< tt))) tail)

octets_below : (groups : List ℕ) → AllBelow (2 ^ 16) groups → AllBelow 256 (octets_of groups)
octets_below [] fit i = omega arith
octets_below (s ∷ groups) fit zero = let first : s < 2 ^ 16 = fit 0 in omega arith
octets_below (s ∷ groups) fit (suc zero) = omega arith
octets_below (s ∷ groups) fit (suc (suc i)) = octets_below groups (λ j. fit (suc j)) i

sixteen_octets : (octets : List ℕ) → AllBelow 256 octets → from_be_bytes w128 octets < 2 ^ 128
sixteen_octets octets fit = omega (arith, fit 0, fit 1, fit 2, fit 3, fit 4, fit 5, fit 6, fit 7, fit 8, fit 9, fit 10, fit 11, fit 12, fit 13, fit 14, fit 15)

ipv6_fits : (text : List ℕ) (a : ℕ) → ipv6_of text ≡ Some a → a < 2 ^ 128
ipv6_fits text a e =
    let (groups, is, same) = (reads_ipv6 text a).0 e in
    rw same (sixteen_octets (octets_of groups) (octets_below groups (colon_hex_below text groups is)))

-- ---- both families

if_fits : (read : List ℕ → Option ℕ) (most : ℕ) → ((text : List ℕ) (a : ℕ) → read text ≡ Some a → a < most) → (text : List ℕ) → IfSome (read text) (λ a. a < most)
if_fits read most fits text = there (read text) refl
  where
    there : (o : Option ℕ) → read text ≡ o → IfSome o (λ a. a < most)
    there None e = tt
    there (Some a) e = fits text a e

-- the address that a text writes
pub address_fits : (w : ℕ) → IsFamilyWidth w → (text : List ℕ) → IfSome (address_of w text) (λ a. a < 2 ^ w)
address_fits w family text =
    let P : ℕ → Type 0 = λ w. IfSome (address_of w text) (λ a. a < 2 ^ w) in
    elim family [ inl e ↦ subst P (sym e) (if_fits ipv4_of (2 ^ 32) ipv4_fits text) | inr e ↦ subst P (sym e) (if_fits ipv6_of (2 ^ 128) ipv6_fits text) ]

-- ---- numbers

number_small : (text : List ℕ) (n : ℕ) → number_of text ≡ Some n → n < 2 ^ 32
unfolding number_of
number_small text n e =
    let found = cond_some (is_numeral text && nat_lt (digits_value 10 text) (2 ^ 32)) (digits_value 10 text) n e in
    let tests = and_parts (is_numeral text) (nat_lt (digits_value 10 text) (2 ^ 32)) found.0 in
    rw (← found.1) (ltb-true (digits_value 10 text) (2 ^ 32) tests.1)

-- the number that a text writes
pub number_fits : (text : List ℕ) → IfSome (number_of text) (λ n. n < 2 ^ 32)
number_fits text = if_fits number_of (2 ^ 32) number_small text

-- ---- prefixes

pub family_bounds : (w : ℕ) → IsFamilyWidth w → (1 ≤ w) × (w ≤ 128)
family_bounds w (inl e) = (omega arith, omega arith)
family_bounds w (inr e) = (omega arith, omega arith)

-- the prefix of an address and a length
pub masked_fits : (w a len : ℕ) → IsFamilyWidth w → a < 2 ^ w → len ≤ w → IsBlock w (masked_block w a len)
masked_fits w a len family fits inside =
    let bounds = family_bounds w family in
    let base = div-mul-le_self a (2 ^ (w - len)) in
    let aligned = mul-mod_left (a / 2 ^ (w - len)) (2 ^ (w - len)) in
    (bounds.0, bounds.1, inside, omega arith, aligned)

masked_by_fits : (w : ℕ) (a len : Option ℕ) → IsFamilyWidth w → IfSome a (λ a. a < 2 ^ w) → IfSome len (λ len. len ≤ w) → IfSome (masked_by w a len) (IsBlock w)
masked_by_fits w None len family fits inside = tt
masked_by_fits w (Some a) None family fits inside = tt
masked_by_fits w (Some a) (Some len) family fits inside = masked_fits w a len family fits inside

length_fits : (w : ℕ) (text : List ℕ) → IfSome (length_of w text) (λ len. len ≤ w)
length_fits w text = there (number_of text)
  where
    shorter : (len : ℕ) (t : Bool) → nat_le len w ≡ t → IfSome (cond t (Some len) None) (λ len. len ≤ w)
    shorter len true e = leb-true len w e
    shorter len false e = tt

    there : (o : Option ℕ) → IfSome (option_and_then (λ len. cond (nat_le len w) (Some len) None) o) (λ len. len ≤ w)
    there None = tt
    there (Some len) = shorter len (nat_le len w) refl

-- the prefix that a text writes
pub block_fits : (w : ℕ) → IsFamilyWidth w → (text : List ℕ) → IfSome (block_of w text) (IsBlock w)
block_fits w family text = choice (bytes_eq text (codes "default")) (list_any is_slash text)
  where
    bounds : (1 ≤ w) × (w ≤ 128)
    bounds = family_bounds w family

    whole : IsBlock w default_block
    whole = (bounds.0, bounds.1, omega arith, pow_pos w, zero-mod (2 ^ (w - 0)))

    choice : (word slash : Bool) → IfSome (cond word (Some default_block) (cond slash (slashed_of w text) (bare_of w text))) (IsBlock w)
    choice true slash = whole
    choice false true = masked_by_fits w (address_of w (before_first is_slash text)) (length_of w (after_first is_slash text)) family (address_fits w family (before_first is_slash text)) (length_fits w (after_first is_slash text))
    choice false false = masked_by_fits w (address_of w text) (Some w) family (address_fits w family text) (omega arith)
