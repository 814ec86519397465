-- Address texts of IPv4 and IPv6: what a text writes, and the one text that is written of an address.
use Rattle.std.specs.Prelude.{◌≡◌, ◌==◌, ◌⊎◌, ℕ, List, Option, option_map, if◌then◌else◌}
use Rattle.std.specs.Int.{w32, w128, to_be_bytes, from_be_bytes}
use Rattle.std.specs.Net.Addr.{octets_of, segments_of}
use Rattle.std.specs.Net.Grammar.{IsDotted, IsColonHex}
use Rattle.std.specs.Net.Reader.{read_ipv4, read_ipv6, whole_value}
use Rattle.std.specs.Net.Text.{ipv4_text, hex_groups_text}

-- the width of an address family: 32 bits for IPv4, 128 bits for IPv6
abbrev pub IsFamilyWidth : ℕ → Type 0
IsFamilyWidth w = (w ≡ 32) ⊎ (w ≡ 128)

-- the number that eight groups of 16 bits make, the high group first
abbrev pub groups_value : List ℕ → ℕ
groups_value groups = from_be_bytes w128 (octets_of groups)

-- ---- the grammars

-- The text writes this IPv4 address: four decimal numbers below 256, each with no leading zero,
-- and dots between them.
abbrev pub WritesIpv4 : List ℕ → ℕ → Type 0
WritesIpv4 text a = (octets : List ℕ) × IsDotted text octets × (a ≡ from_be_bytes w32 octets)

-- The text writes this IPv6 address (RFC 4291 section 2.2): eight groups of one to four hex
-- digits, in either case, with colons between them. One `::` may stand for one zero group or more,
-- and the last two groups may be written as an IPv4 address.
abbrev pub WritesIpv6 : List ℕ → ℕ → Type 0
WritesIpv6 text a = (groups : List ℕ) × IsColonHex text groups × (a ≡ groups_value groups)

-- ---- what a text writes

-- the IPv4 address that the text writes, if it writes one
unfoldable pub ipv4_of : List ℕ → Option ℕ
ipv4_of text = option_map (from_be_bytes w32) (whole_value (read_ipv4 text))

-- the IPv6 address that the text writes, if it writes one
unfoldable pub ipv6_of : List ℕ → Option ℕ
ipv6_of text = option_map groups_value (whole_value (read_ipv6 text))

-- the address of this width that the text writes, if it writes one
abbrev pub address_of : ℕ → List ℕ → Option ℕ
address_of w text = if w == 32 then ipv4_of text else ipv6_of text

-- ---- what is written of an address

-- four decimal numbers with dots between them
unfoldable pub dotted_of : ℕ → List ℕ
dotted_of a = ipv4_text (to_be_bytes w32 a)

-- Eight groups in lower case with no leading zeros and colons between them. `::` stands for the
-- longest run of two zero groups or more, and of two such runs for the first (RFC 5952 section 4).
-- There is never a dotted tail.
unfoldable pub colon_hex_of : ℕ → List ℕ
colon_hex_of a = hex_groups_text (segments_of (to_be_bytes w128 a))

-- the text that is written of an address of this width
abbrev pub address_text : ℕ → ℕ → List ℕ
address_text w a = if w == 32 then dotted_of a else colon_hex_of a
