-- A text is read as a prefix exactly where the grammar gives it that prefix.
use Rattle.std.proofs.Common.{◌≡◌, ◌≢◌, ℕ, zero, suc, ◌^◌, ◌<◌, ◌≤◌, ◌++◌, inl, inr, Bool, true, false, cond, nat_le, List, [], ◌∷◌, All, length, get_or, Option, Some, None, position, codes, decimal, refl, sym, ap, ◌∙◌, subst, arith}
use Rattle.std.proofs.lemmas.Bool.{ne_eqb, eqb-true, both_ways, false_from_ne_true}
use Rattle.std.proofs.lemmas.Bool.Decides.{nat_tests}
use Rattle.std.proofs.lemmas.List.Elements.{All-nil, All-cons, All-append, All-get_or, All-weaker}
use Rattle.std.proofs.lemmas.List.Folds.{list_any_none}
use Rattle.std.proofs.lemmas.List.Sums.{passes_at_first, split_at_first}
use Rattle.std.proofs.lemmas.Option.{none-some, same_Some, cond_some, option_and_then_some}
use Rattle.std.proofs.lemmas.Slice.Eq.{bytes_eq-Decides}
use Rattle.std.proofs.NetLemmas.Alphabet.{IsDigitOrDot, All-ipv4_text}
use Rattle.std.specs.Char.{digit_value}
use Rattle.std.specs.List.{list_any, position_or_len, before_first, after_first}
use Rattle.std.specs.Net.Grammar.{IsDotted, IsColonHex, IsGroupsAfter}
use Rattle.std.specs.Str.{bytes_eq}
use Rattle.std.specs.Str.Parse.{AllDigits}
use Rattle.prefix_width.specs.Prefix.{Block, masked_block}
use Rattle.addr_text.specs.Address.{IsFamilyWidth, address_of}
use Rattle.addr_text.specs.Laws.{ReadsPrefix}
use Rattle.addr_text.specs.Number.{number_of}
use Rattle.addr_text.specs.PrefixText.{WritesAddress, WritesSlashed, WritesBare, WritesPrefix, is_slash, length_of, masked_by, default_block, slashed_of, bare_of, block_of}
use Rattle.addr_text.proofs.AddressLemmas.{reads_ipv4, reads_ipv6}
use Rattle.addr_text.proofs.NumberLemmas.{decimal-number_of}
use Rattle.addr_text.proofs.PrefixTextLemmas.{position_finds_first, before_slash, after_slash, some_slash, not_default, length_of-decimal}

-- ---- the bytes of an address text

-- no slash, and below `g`
abbrev IsPlain : ℕ → Type 0
IsPlain byte = (byte ≢ 47) × (byte < 103)

AllPlain-dotted : (text octets : List ℕ) → IsDotted text octets → All IsPlain text
AllPlain-dotted text octets is =
    let parts = is.a ∷ is.b ∷ is.c ∷ is.d ∷ [] in
    let fits : (k : ℕ) → get_or parts k 0 < 2 ^ 8 = fit in
    let plain : (x : ℕ) → IsDigitOrDot x → IsPlain x = λ x kind. elim kind [ inl digit ↦ (λ e. omega arith, omega arith) | inr dot ↦ (λ e. omega arith, omega arith) ] in
    let P : List ℕ → Type 0 = All IsPlain in
    subst P (sym is.spelled) (All-weaker IsDigitOrDot IsPlain plain _ (All-ipv4_text parts fits))
  where
    fit : (k : ℕ) → get_or (is.a ∷ is.b ∷ is.c ∷ is.d ∷ []) k 0 < 2 ^ 8
    fit zero = omega (arith, is.fit.0)
    fit (suc zero) = omega (arith, is.fit.1)
    fit (suc (suc zero)) = omega (arith, is.fit.2)
    fit (suc (suc (suc zero))) = omega (arith, is.fit.3)
    fit (suc (suc (suc (suc k)))) = omega arith

plain_digit : (c : ℕ) → digit_value c < 16 → IsPlain c
plain_digit c h = (λ e. let high = rw e at h in omega (arith, high), grind (arith, nat_tests))

AllPlain-digits : (text : List ℕ) → AllDigits 16 text → All IsPlain text
AllPlain-digits [] h = All-nil IsPlain
AllPlain-digits (c ∷ cs) h = All-cons IsPlain c cs (plain_digit c h.0) (AllPlain-digits cs h.1)

colon : All IsPlain (codes ":")
colon = All-cons IsPlain 58 [] (λ e. omega arith, omega arith) (All-nil IsPlain)

joined : (xs ys text : List ℕ) → text ≡ xs ++ ys → All IsPlain xs → All IsPlain ys → All IsPlain text
joined xs ys text e h k = let P : List ℕ → Type 0 = All IsPlain in subst P (sym e) (All-append IsPlain xs ys h k)

AllPlain-groups : (ipv4 : Bool) (lead text segments : List ℕ) → All IsPlain lead → IsGroupsAfter ipv4 lead text segments → All IsPlain text
AllPlain-groups ipv4 lead text [] front is = let P : List ℕ → Type 0 = All IsPlain in subst P (sym is) (All-nil IsPlain)
AllPlain-groups ipv4 lead text (s ∷ segments) front (inl (group, rest, spelled, digits, more)) =
    let first = All-append IsPlain lead group front (AllPlain-digits group digits.0.0.1) in
    joined (lead ++ group) rest text spelled first (AllPlain-groups ipv4 (codes ":") rest segments colon more)
AllPlain-groups ipv4 lead text (s ∷ segments) front (inr (last, octets, allowed, spelled, dotted, value)) =
    joined lead last text spelled front (AllPlain-dotted last octets dotted)

AllPlain-colon_hex : (text groups : List ℕ) → IsColonHex text groups → All IsPlain text
AllPlain-colon_hex text groups (inl (is, eight)) = AllPlain-groups true [] text groups (All-nil IsPlain) is
AllPlain-colon_hex text groups (inr is) =
    let head = AllPlain-groups false [] is.head_text is.head (All-nil IsPlain) is.head_groups in
    let tail = AllPlain-groups true [] is.tail_text is.tail (All-nil IsPlain) is.tail_groups in
    let colons = All-append IsPlain (codes ":") (codes ":") colon colon in
    joined (is.head_text ++ codes "::") is.tail_text text is.spelled (All-append IsPlain is.head_text (codes "::") head colons) tail

AllPlain-address : (w a : ℕ) (text : List ℕ) → WritesAddress w text a → All IsPlain text
AllPlain-address w a text (inl (width, is)) = AllPlain-dotted text is.0 is.1
AllPlain-address w a text (inr (width, is)) = AllPlain-colon_hex text is.0 is.1

module _ (text : List ℕ) (plain : All IsPlain text) where
  no_slash_at : (k : ℕ) → k < length text → is_slash (get_or text k 0) ≡ false
  no_slash_at k h = ne_eqb (get_or text k 0) 47 (All-get_or IsPlain text k 0 h plain).0

  no_slash : list_any is_slash text ≡ false
  no_slash = list_any_none is_slash text (All-weaker IsPlain (λ x. is_slash x ≡ false) (λ x h. ne_eqb x 47 h.0) text plain)

  -- the word `default` has a `u`
  no_default : bytes_eq text (codes "default") ≡ false
  no_default =
      false_from_ne_true (bytes_eq text (codes "default")) λ same.
      let P : List ℕ → Type 0 = All IsPlain in
      let word = subst P ((bytes_eq-Decides text (codes "default")).0 same) plain in
      omega (arith, (All-get_or IsPlain (codes "default") 4 0 (omega arith) word).1)

-- ---- addresses and lengths

address_read : (w a : ℕ) (text : List ℕ) → WritesAddress w text a → address_of w text ≡ Some a
address_read w a text (inl (width, is)) = rw width ((reads_ipv4 text a).1 is)
address_read w a text (inr (width, is)) = rw width ((reads_ipv6 text a).1 is)

address_written : (w a : ℕ) (text : List ℕ) → IsFamilyWidth w → address_of w text ≡ Some a → WritesAddress w text a
address_written w a text (inl width) e = inl (width, (reads_ipv4 text a).0 (rw width at e))
address_written w a text (inr width) e = inr (width, (reads_ipv6 text a).0 (rw width at e))

-- ---- what is read is written

length_written : (w len : ℕ) (text : List ℕ) → length_of w text ≡ Some len → (text ≡ decimal len) × (len ≤ w)
length_written w len text e =
    option_and_then_some (λ n. cond (nat_le n w) (Some n) None) (number_of text) len e λ n read test.
    let (few, same) = cond_some (nat_le n w) n len test in
    (decimal-number_of text len (rw (← same) read), grind (arith, nat_tests))

masked_from : (w : ℕ) (a len : Option ℕ) (b : Block) → masked_by w a len ≡ Some b → (x n : ℕ) × (a ≡ Some x) × (len ≡ Some n) × (b ≡ masked_block w x n)
masked_from w None len b e = absurd (none-some b e)
masked_from w (Some x) None b e = absurd (none-some b e)
masked_from w (Some x) (Some n) b e = (x, n, refl, refl, sym (same_Some _ b e))

-- a text with a slash is what stands before the first, the slash, and what stands after it
split : (text : List ℕ) → list_any is_slash text ≡ true → text ≡ before_first is_slash text ++ (47 ∷ after_first is_slash text)
split text some = by_place (position is_slash text) refl
  where
    by_place : (o : Option ℕ) → o ≡ position is_slash text → text ≡ before_first is_slash text ++ (47 ∷ after_first is_slash text)
    by_place None e = absurd (both_ways (list_any is_slash text) (position_finds_first is_slash text None e) some)
    by_place (Some i) e =
        let (_, first, inside) = position_finds_first is_slash text (Some i) e in
        let here : position_or_len is_slash text < length text = omega (arith, first, inside) in
        let byte = eqb-true (get_or text (position_or_len is_slash text) 0) 47 (passes_at_first is_slash text 0 here) in
        split_at_first is_slash text 0 here ∙ ap (λ c. before_first is_slash text ++ (c ∷ after_first is_slash text)) byte

module _ (w : ℕ) (text : List ℕ) (b : Block) (family : IsFamilyWidth w) where
  slashed_written : list_any is_slash text ≡ true → slashed_of w text ≡ Some b → WritesSlashed w text b
  slashed_written some e =
      let (a, len, address, number, value) = masked_from w (address_of w (before_first is_slash text)) (length_of w (after_first is_slash text)) b e in
      let (digits, within) = length_written w len (after_first is_slash text) number in
      record {
        addr = before_first is_slash text;
        a = a;
        len = len;
        address = address_written w a (before_first is_slash text) family address;
        within = within;
        spelled = split text some ∙ ap (λ rest. before_first is_slash text ++ (47 ∷ rest)) digits;
        value = value;
      }

  bare_written : bare_of w text ≡ Some b → WritesBare w text b
  bare_written e =
      let (a, len, address, same, value) = masked_from w (address_of w text) (Some w) b e in
      (a, address_written w a text family address, value ∙ ap (masked_block w a) (sym (same_Some w len same)))

  by_slash : (t : Bool) → list_any is_slash text ≡ t → cond t (slashed_of w text) (bare_of w text) ≡ Some b → WritesPrefix w text b
  by_slash true some e = inl (slashed_written some e)
  by_slash false none e = inr (inl (bare_written e))

  by_word : (t : Bool) → bytes_eq text (codes "default") ≡ t → cond t (Some default_block) (cond (list_any is_slash text) (slashed_of w text) (bare_of w text)) ≡ Some b → WritesPrefix w text b
  by_word true same e = inr (inr ((bytes_eq-Decides text (codes "default")).0 same, sym (same_Some default_block b e)))
  by_word false other e = by_slash (list_any is_slash text) refl e

  prefix_written : block_of w text ≡ Some b → WritesPrefix w text b
  prefix_written e = by_word (bytes_eq text (codes "default")) refl e

  -- ---- what is written is read

  slashed_read : WritesSlashed w text b → block_of w text ≡ Some b
  slashed_read is =
      let plain = AllPlain-address w is.a is.addr is.address in
      let clean = no_slash_at is.addr plain in
      let rest = decimal is.len in
      let some = some_slash is.addr rest clean in
      let most : w ≤ 128 = elim family [ inl e ↦ omega arith | inr e ↦ omega arith ] in
      let read = address_read w is.a is.addr is.address in
      rw (is.spelled, not_default (is.addr ++ (47 ∷ rest)) some, some, before_slash is.addr rest clean, after_slash is.addr rest clean, read, length_of-decimal w is.len is.within most)
      (ap Some (sym is.value))

  bare_read : WritesBare w text b → block_of w text ≡ Some b
  bare_read (a, is, value) =
      let plain = AllPlain-address w a text is in
      rw (no_default text plain, no_slash text plain, address_read w a text is) (ap Some (sym value))

  prefix_read : WritesPrefix w text b → block_of w text ≡ Some b
  prefix_read (inl is) = slashed_read is
  prefix_read (inr (inl is)) = bare_read is
  prefix_read (inr (inr (word, value))) = rw word (ap Some (sym value))

pub reads_prefix : ReadsPrefix
reads_prefix w text b family = (prefix_written w text b family, prefix_read w text b family)
