-- Laws of the texts: what the functions find is what the grammars say, and what is written reads as the value.
use Rattle.std.specs.Prelude.{◌≡◌, ◌↔◌, ◌^◌, ◌<◌, ℕ, List, Some}
use Rattle.prefix_width.specs.Prefix.{Block, IsBlock}
use Rattle.addr_text.specs.Address.{IsFamilyWidth, WritesIpv4, WritesIpv6, ipv4_of, ipv6_of, dotted_of, colon_hex_of}
use Rattle.addr_text.specs.PrefixText.{WritesPrefix, block_of, prefix_text}

-- a text reads as an IPv4 address exactly where it writes it
abbrev pub ReadsIpv4 : Type 0
ReadsIpv4 = (text : List ℕ) (a : ℕ) → (ipv4_of text ≡ Some a) ↔ WritesIpv4 text a

-- a text reads as an IPv6 address exactly where it writes it
abbrev pub ReadsIpv6 : Type 0
ReadsIpv6 = (text : List ℕ) (a : ℕ) → (ipv6_of text ≡ Some a) ↔ WritesIpv6 text a

-- a text reads as a prefix exactly where it writes it, in both families
abbrev pub ReadsPrefix : Type 0
ReadsPrefix =
    (w : ℕ) (text : List ℕ) (b : Block) → IsFamilyWidth w → (block_of w text ≡ Some b) ↔ WritesPrefix w text b

-- what is written of an IPv4 address reads as it
abbrev pub ReadsBackIpv4 : Type 0
ReadsBackIpv4 = (a : ℕ) → a < 2 ^ 32 → ipv4_of (dotted_of a) ≡ Some a

-- what is written of an IPv6 address reads as it
abbrev pub ReadsBackIpv6 : Type 0
ReadsBackIpv6 = (a : ℕ) → a < 2 ^ 128 → ipv6_of (colon_hex_of a) ≡ Some a

-- what is written of a prefix reads as it, in both families
abbrev pub ReadsBackPrefix : Type 0
ReadsBackPrefix =
    (w : ℕ) (b : Block) → IsFamilyWidth w → IsBlock w b → block_of w (prefix_text w b) ≡ Some b
