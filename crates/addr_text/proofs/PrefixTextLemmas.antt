-- Where a prefix text is split, and what is written of a prefix reads as it.
use Rattle.std.proofs.Common.{◌≡◌, ℕ, ◌-◌, ◌*◌, ◌/◌, ◌%◌, ◌^◌, ◌<◌, ◌≤◌, ◌++◌, inl, inr, Bool, true, false, cond, nat_lt, List, ◌∷◌, length, get_or, Option, Some, None, MatchOption, position, codes, decimal, refl, sym, ap, ◌∙◌, subst, arith}
use Rattle.std.proofs.lemmas.Bool.{ne_eqb, le-leb, ltb-true, ltb-false, both_ways, false_from_ne_true}
use Rattle.std.proofs.lemmas.List.{length-append, get_or_default}
use Rattle.std.proofs.lemmas.List.Elements.{All-get_or}
use Rattle.std.proofs.lemmas.List.Folds.{list_any_none, list_any-from_Any}
use Rattle.std.proofs.lemmas.List.Sums.{fails_before_first, passes_at_first, position_or_len_is}
use Rattle.std.proofs.lemmas.Nat.{shr_split}
use Rattle.std.proofs.lemmas.Option.{same_Some}
use Rattle.std.proofs.lemmas.Slice.Eq.{bytes_eq-Decides}
use Rattle.std.proofs.Math.ListN.{get_or-append}
use Rattle.std.proofs.Math.Seq.{take-append_seam, drop-append-add, get_or-append_seam}
use Rattle.std.proofs.NetLemmas.Alphabet.{IsDigitOrDot, IsHexOrColon, All-ipv4_text, All-hex_groups_text}
use Rattle.std.specs.Int.{w32, w128, to_be_bytes}
use Rattle.std.specs.List.{list_any, position_or_len, before_first, after_first}
use Rattle.std.specs.Net.Addr.{segments_of}
use Rattle.std.specs.Str.{bytes_eq}
use Rattle.prefix_width.specs.Prefix.{Block, IsBlock, masked_block}
use Rattle.addr_text.specs.Address.{address_of, address_text, dotted_of, colon_hex_of}
use Rattle.addr_text.specs.Laws.{ReadsBackPrefix}
use Rattle.addr_text.specs.PrefixText.{is_slash, length_of, block_of, prefix_text}
use Rattle.addr_text.proofs.AddressLemmas.{reads_back_ipv4, reads_back_ipv6, groups_fit}
use Rattle.addr_text.proofs.NumberLemmas.{number_of-decimal}
use Rattle.addr_text.proofs.OctetLemmas.{bytes_high_first_fit}

-- ---- the first byte that passes a test

module _ (test : ℕ → Bool) (text : List ℕ) where
  -- the place is the first at which a byte passes, or no byte passes
  abbrev pub FindsFirst : Option ℕ → Type 0
  FindsFirst place =
      MatchOption place (list_any test text ≡ false)
      (λ i. (list_any test text ≡ true) × (i ≡ position_or_len test text) × (i < length text))

  pub list_any_at : (place : ℕ) → place < length text → test (get_or text place 0) ≡ true → list_any test text ≡ true
  list_any_at place inside passes =
      let same = get_or_default text place (get_or text place 0) 0 inside in
      list_any-from_Any test text (place, get_or text place 0, inside, same, passes)

  by_bound : (t : Bool) → nat_lt (position_or_len test text) (length text) ≡ t → (place : Option ℕ)
      → place ≡ cond t (Some (position_or_len test text)) None → FindsFirst place
  by_bound true e (Some i) found =
      let inside = ltb-true (position_or_len test text) (length text) e in
      let first : i ≡ position_or_len test text = same_Some i (position_or_len test text) found in
      (list_any_at (position_or_len test text) inside (passes_at_first test text 0 inside), first, omega arith)
  by_bound true e None found = cc
  by_bound false e (Some i) found = cc
  by_bound false e None found =
      let none = ltb-false (position_or_len test text) (length text) e in
      list_any_none test text (λ k d h. fails_before_first test text k d (omega arith))

  pub position_finds_first : (place : Option ℕ) → place ≡ position test text → FindsFirst place
  position_finds_first place e = by_bound (nat_lt (position_or_len test text) (length text)) refl place e

-- ---- the text of a prefix is split where it was joined

-- no byte of the text is a slash
abbrev HasNoSlash : List ℕ → Type 0
HasNoSlash text = (k : ℕ) → k < length text → is_slash (get_or text k 0) ≡ false

-- dots and digits, hex digits and colons: no slash
HasNoSlash-dotted : (a : ℕ) → HasNoSlash (dotted_of a)
unfolding dotted_of
HasNoSlash-dotted a k h =
    let byte = get_or (dotted_of a) k 0 in
    let digit_or_dot : IsDigitOrDot byte = All-get_or IsDigitOrDot (dotted_of a) k 0 h (All-ipv4_text (to_be_bytes w32 a) (bytes_high_first_fit 4 a)) in
    ne_eqb byte 47 (elim digit_or_dot [ inl digit ↦ λ e. omega arith | inr dot ↦ λ e. omega arith ])

HasNoSlash-colon_hex : (a : ℕ) → HasNoSlash (colon_hex_of a)
unfolding colon_hex_of
HasNoSlash-colon_hex a k h =
    let byte = get_or (colon_hex_of a) k 0 in
    let hex_or_colon : IsHexOrColon byte = All-get_or IsHexOrColon (colon_hex_of a) k 0 h (All-hex_groups_text (segments_of (to_be_bytes w128 a)) (groups_fit a)) in
    ne_eqb byte 47 (elim hex_or_colon [ inl digit ↦ λ e. omega arith | inr letter ↦ λ e. omega arith ])

-- an address text and what follows it, with a slash between them
module _ (front rest : List ℕ) (no_slash : HasNoSlash front) where
  -- the first slash stands behind the address
  place_is : position_or_len is_slash (front ++ 47 ∷ rest) ≡ length front
  place_is =
      let long = length-append front (47 ∷ rest) in
      position_or_len_is is_slash (front ++ 47 ∷ rest) (length front) 0 (omega arith)
      (λ k h. ap is_slash (get_or-append front (47 ∷ rest) 0 k h) ∙ no_slash k h)
      (λ _. ap is_slash (get_or-append_seam front 47 rest 0))

  pub before_slash : before_first is_slash (front ++ 47 ∷ rest) ≡ front
  before_slash = rw place_is (take-append_seam front (47 ∷ rest))

  pub after_slash : after_first is_slash (front ++ 47 ∷ rest) ≡ rest
  after_slash = rw place_is (drop-append-add front (47 ∷ rest) 1)

  pub some_slash : list_any is_slash (front ++ 47 ∷ rest) ≡ true
  some_slash =
      let long = length-append front (47 ∷ rest) in
      list_any_at is_slash (front ++ 47 ∷ rest) (length front) (omega arith) (ap is_slash (get_or-append_seam front 47 rest 0))

-- a text with a slash is not the word `default`
pub not_default : (text : List ℕ) → list_any is_slash text ≡ true → bytes_eq text (codes "default") ≡ false
not_default text some =
    false_from_ne_true (bytes_eq text (codes "default")) λ same.
    both_ways (list_any is_slash text) (ap (list_any is_slash) ((bytes_eq-Decides text (codes "default")).0 same)) some

-- ---- what is written reads as the prefix

pub length_of-decimal : (w len : ℕ) → len ≤ w → w ≤ 128 → length_of w (decimal len) ≡ Some len
length_of-decimal w len h most = rw (number_of-decimal len (omega arith), le-leb len w h) refl

-- a block is the one that its own base and length make
masked_block_is : (w : ℕ) (b : Block) → b.base % 2 ^ (w - b.len) ≡ 0 → masked_block w b.base b.len ≡ b
masked_block_is w b aligned =
    let base : b.base / 2 ^ (w - b.len) * 2 ^ (w - b.len) ≡ b.base = omega (arith, shr_split b.base (w - b.len)) in
    ap (λ n. record { base = n; len = b.len }) base

-- what is written of a prefix reads as it, where the address's text does and has no slash
reads_back : (w : ℕ) (b : Block) → IsBlock w b → HasNoSlash (address_text w b.base) → address_of w (address_text w b.base) ≡ Some b.base
    → block_of w (prefix_text w b) ≡ Some b
reads_back w b is no_slash read =
    let front = address_text w b.base in
    let rest = decimal b.len in
    let some = some_slash front rest no_slash in
    let len = length_of-decimal w b.len is.2 is.1 in
    rw (not_default (prefix_text w b) some, some, before_slash front rest no_slash, after_slash front rest no_slash, read, len)
    (ap Some (masked_block_is w b is.4))

abbrev IsReadBack : Block → ℕ → Type 0
IsReadBack b w = IsBlock w b → block_of w (prefix_text w b) ≡ Some b

reads_back_32 : (b : Block) → IsReadBack b 32
reads_back_32 b is = reads_back 32 b is (HasNoSlash-dotted b.base) (reads_back_ipv4 b.base is.3)

reads_back_128 : (b : Block) → IsReadBack b 128
reads_back_128 b is = reads_back 128 b is (HasNoSlash-colon_hex b.base) (reads_back_ipv6 b.base is.3)

pub reads_back_prefix : ReadsBackPrefix
reads_back_prefix w b family is =
    elim family [
      | inl e ↦ subst (IsReadBack b) (sym e) (reads_back_32 b) is
      | inr e ↦ subst (IsReadBack b) (sym e) (reads_back_128 b) is
    ]
