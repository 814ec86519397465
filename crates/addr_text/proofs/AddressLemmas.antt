-- Address texts are read as the grammars have it, and what is written reads as the address.
use Rattle.std.proofs.Common.{◌≡◌, ◌↔◌, ℕ, ◌^◌, ◌<◌, ◌++◌, ◌==◌, List, [], length, get_or, Option, Some, None, MatchOption, option_map, refl, sym, ap, subst, ◌∙◌, lit≤, append-nil}
use Rattle.std.proofs.lemmas.Bool.{eqb-true}
use Rattle.std.proofs.lemmas.List.{nil_from_length}
use Rattle.std.proofs.lemmas.Nat.{from_be_bytes-to_be_bytes_4}
use Rattle.std.proofs.lemmas.Option.{none-some}
use Rattle.std.proofs.NetLemmas.Ipv4.{read_ipv4_complete, read_ipv4_sound}
use Rattle.std.proofs.NetLemmas.Ipv6.{read_ipv6_complete, read_ipv6_sound, EndsGroups-nil}
use Rattle.std.proofs.NetLemmas.Options.{cond_some, and_then_some, map_some}
use Rattle.std.proofs.NetLemmas.Texts.{IsDotted-ipv4_text, IsColonHex-hex_groups_text}
use Rattle.std.specs.Int.{w32, w128, to_be_bytes, from_be_bytes}
use Rattle.std.specs.Net.Addr.{segments_of}
use Rattle.std.specs.Net.Grammar.{IsDotted, IsColonHex}
use Rattle.std.specs.Net.Reader.{Read, read_ipv4, read_ipv6, whole_value}
use Rattle.addr_text.specs.Address.{WritesIpv4, WritesIpv6, groups_value, ipv4_of, ipv6_of, dotted_of, colon_hex_of}
use Rattle.addr_text.specs.Laws.{ReadsIpv4, ReadsIpv6, ReadsBackIpv4, ReadsBackIpv6}
use Rattle.addr_text.proofs.OctetLemmas.{from_be_bytes-to_be_bytes_16, bytes_high_first_fit, octets_of-segments_of, segments_of_fit}

-- A reader of the front of a text, the grammar that it reads, and the number that its parts make.
module _ (Spells : List ℕ → List ℕ → Type 0) (read : List ℕ → Read (List ℕ)) (number : List ℕ → ℕ)
    (complete : (text parts : List ℕ) → Spells text parts → read text ≡ Some (parts, []))
    (sound : (text parts rest : List ℕ) → read text ≡ Some (parts, rest) → (front : List ℕ) × (text ≡ front ++ rest) × Spells front parts) where
  abbrev number_at : List ℕ → Option ℕ
  number_at text = option_map number (whole_value (read text))

  abbrev Writes : List ℕ → ℕ → Type 0
  Writes text a = (parts : List ℕ) × Spells text parts × (a ≡ number parts)

  pub spelled_found : (text parts : List ℕ) → Spells text parts → number_at text ≡ Some (number parts)
  spelled_found text parts h = ap (λ r. option_map number (whole_value r)) (complete text parts h)

  pub found_spelled : (text : List ℕ) (a : ℕ) → number_at text ≡ Some a → Writes text a
  found_spelled text a e =
      map_some number (whole_value (read text)) a e λ parts whole value.
      and_then_some _ (read text) parts whole λ found at_end is_read.
      let (stops, same) = cond_some (length found.1 == 0) found.0 parts is_read in
      let (front, split, spells) = sound text found.0 found.1 at_end in
      let all : text ≡ front = split ∙ ap (λ rest. front ++ rest) (nil_from_length found.1 (eqb-true (length found.1) 0 stops)) ∙ append-nil front in
      (parts, rw (all, ← same) spells, sym value)

  pub found_iff_spelled : (text : List ℕ) (a : ℕ) → (number_at text ≡ Some a) ↔ Writes text a
  found_iff_spelled text a = (found_spelled text a, λ (parts, h, e). spelled_found text parts h ∙ ap Some (sym e))

  by_result : (text : List ℕ) (o : Option ℕ) → o ≡ number_at text → MatchOption o ((parts : List ℕ) → ¬ (Spells text parts)) (Writes text)
  by_result text None e = λ parts h. none-some _ (e ∙ spelled_found text parts h)
  by_result text (Some a) e = found_spelled text a (sym e)

  none_by : (text : List ℕ) (o : Option ℕ) → number_at text ≡ o → ((parts : List ℕ) → ¬ (Spells text parts)) → None ≡ o
  none_by text None e none = refl
  none_by text (Some a) e none = let written = found_spelled text a e in absurd (none written.0 written.1)

  pub not_found : (text : List ℕ) → ((parts : List ℕ) → ¬ (Spells text parts)) → None ≡ number_at text
  not_found text none = none_by text (number_at text) refl none

-- ---- IPv4

ipv4_complete : (text octets : List ℕ) → IsDotted text octets → read_ipv4 text ≡ Some (octets, [])
ipv4_complete text octets h = subst (λ t. read_ipv4 t ≡ Some (octets, [])) (append-nil text) (read_ipv4_complete text octets [] h (lit≤ tt))

pub ipv4_of-dotted : (text octets : List ℕ) → IsDotted text octets → ipv4_of text ≡ Some (from_be_bytes w32 octets)
unfolding ipv4_of
ipv4_of-dotted = spelled_found IsDotted read_ipv4 (from_be_bytes w32) ipv4_complete read_ipv4_sound

pub ipv4_of_none : (text : List ℕ) → ((octets : List ℕ) → ¬ (IsDotted text octets)) → None ≡ ipv4_of text
unfolding ipv4_of
ipv4_of_none = not_found IsDotted read_ipv4 (from_be_bytes w32) ipv4_complete read_ipv4_sound

pub ipv4_of_cases : (text : List ℕ) (o : Option ℕ) → o ≡ ipv4_of text → MatchOption o ((octets : List ℕ) → ¬ (IsDotted text octets)) (WritesIpv4 text)
unfolding ipv4_of
ipv4_of_cases = by_result IsDotted read_ipv4 (from_be_bytes w32) ipv4_complete read_ipv4_sound

pub reads_ipv4 : ReadsIpv4
unfolding ipv4_of
reads_ipv4 = found_iff_spelled IsDotted read_ipv4 (from_be_bytes w32) ipv4_complete read_ipv4_sound

octets_fit : (a i : ℕ) → get_or (to_be_bytes w32 a) i 0 < 2 ^ 8
octets_fit a i = bytes_high_first_fit 4 a i

pub reads_back_ipv4 : ReadsBackIpv4
unfolding dotted_of
reads_back_ipv4 a fits =
    ipv4_of-dotted (dotted_of a) (to_be_bytes w32 a) (IsDotted-ipv4_text (to_be_bytes w32 a) refl (octets_fit a))
    ∙ ap Some (from_be_bytes-to_be_bytes_4 a fits)

-- ---- IPv6

ipv6_complete : (text groups : List ℕ) → IsColonHex text groups → read_ipv6 text ≡ Some (groups, [])
ipv6_complete text groups h = subst (λ t. read_ipv6 t ≡ Some (groups, [])) (append-nil text) (read_ipv6_complete text groups [] h EndsGroups-nil)

pub ipv6_of-colon_hex : (text groups : List ℕ) → IsColonHex text groups → ipv6_of text ≡ Some (groups_value groups)
unfolding ipv6_of
ipv6_of-colon_hex = spelled_found IsColonHex read_ipv6 groups_value ipv6_complete read_ipv6_sound

pub ipv6_of_none : (text : List ℕ) → ((groups : List ℕ) → ¬ (IsColonHex text groups)) → None ≡ ipv6_of text
unfolding ipv6_of
ipv6_of_none = not_found IsColonHex read_ipv6 groups_value ipv6_complete read_ipv6_sound

pub ipv6_of_cases : (text : List ℕ) (o : Option ℕ) → o ≡ ipv6_of text → MatchOption o ((groups : List ℕ) → ¬ (IsColonHex text groups)) (WritesIpv6 text)
unfolding ipv6_of
ipv6_of_cases = by_result IsColonHex read_ipv6 groups_value ipv6_complete read_ipv6_sound

pub reads_ipv6 : ReadsIpv6
unfolding ipv6_of
reads_ipv6 = found_iff_spelled IsColonHex read_ipv6 groups_value ipv6_complete read_ipv6_sound

pub groups_fit : (a i : ℕ) → get_or (segments_of (to_be_bytes w128 a)) i 0 < 2 ^ 16
groups_fit a = segments_of_fit (to_be_bytes w128 a) (bytes_high_first_fit 16 a)

groups_value_is : (a : ℕ) → a < 2 ^ 128 → groups_value (segments_of (to_be_bytes w128 a)) ≡ a
groups_value_is a fits =
    ap (from_be_bytes w128) (octets_of-segments_of 8 (to_be_bytes w128 a) refl (bytes_high_first_fit 16 a))
    ∙ from_be_bytes-to_be_bytes_16 a fits

pub reads_back_ipv6 : ReadsBackIpv6
unfolding colon_hex_of
reads_back_ipv6 a fits =
    let groups = segments_of (to_be_bytes w128 a) in
    ipv6_of-colon_hex (colon_hex_of a) groups (IsColonHex-hex_groups_text groups refl (groups_fit a))
    ∙ ap Some (groups_value_is a fits)
