-- Prefix texts: an address and a length with `/` between them, an address alone, or `default`.
use Rattle.std.specs.Prelude.{◌≡◌, ◌==◌, ◌≤◌, ◌⊎◌, ℕ, Bool, nat_le, List, ◌++◌, Option, Some, None, option_and_then, codes, decimal, bytes_eq, if◌then◌else◌}
use Rattle.std.specs.List.{list_any, before_first, after_first}
use Rattle.prefix_width.specs.Prefix.{Block, masked_block}
use Rattle.addr_text.specs.Number.{number_of}
use Rattle.addr_text.specs.Address.{WritesIpv4, WritesIpv6, address_of, address_text}

-- ---- the grammar

-- the text writes this address of a width
abbrev pub WritesAddress : ℕ → List ℕ → ℕ → Type 0
WritesAddress w text a = ((w ≡ 32) × WritesIpv4 text a) ⊎ ((w ≡ 128) × WritesIpv6 text a)

-- `ADDR/LEN`: an address, a slash, and a length of 0 to w bits with no leading zero. Host bits are cleared.
pub record WritesSlashed (w : ℕ) (text : List ℕ) (b : Block) : Type 0 where
  pub addr : List ℕ
  pub a : ℕ
  pub len : ℕ
  pub address : WritesAddress w addr a
  pub within : len ≤ w
  pub spelled : text ≡ addr ++ (codes "/" ++ decimal len)
  pub value : b ≡ masked_block w a len

-- an address alone, which is a prefix of full length
abbrev pub WritesBare : ℕ → List ℕ → Block → Type 0
WritesBare w text b = (a : ℕ) × WritesAddress w text a × (b ≡ masked_block w a w)

-- the prefix of length 0, which contains every address
abbrev pub default_block : Block
default_block = record { base = 0; len = 0 }

-- the word `default`, which is the prefix of length 0
abbrev pub WritesDefault : List ℕ → Block → Type 0
WritesDefault text b = (text ≡ codes "default") × (b ≡ default_block)

-- the text writes this prefix of a width
abbrev pub WritesPrefix : ℕ → List ℕ → Block → Type 0
WritesPrefix w text b = WritesSlashed w text b ⊎ (WritesBare w text b ⊎ WritesDefault text b)

-- ---- what a text writes

-- the byte `/`
abbrev pub is_slash : ℕ → Bool
is_slash byte = byte == 47

-- the length of 0 to w bits that the text writes, with no leading zero
abbrev pub length_of : ℕ → List ℕ → Option ℕ
length_of w text = option_and_then (λ len. if nat_le len w then Some len else None) (number_of text)

-- the prefix of this length that contains the address, where there are both: host bits are cleared
abbrev pub masked_by : ℕ → Option ℕ → Option ℕ → Option Block
masked_by w None len = None
masked_by w (Some a) None = None
masked_by w (Some a) (Some len) = Some (masked_block w a len)

-- an address and a length, split at the first `/`
abbrev pub slashed_of : ℕ → List ℕ → Option Block
slashed_of w text =
    masked_by w (address_of w (before_first is_slash text)) (length_of w (after_first is_slash text))

-- an address alone, which is a prefix of full length
abbrev pub bare_of : ℕ → List ℕ → Option Block
bare_of w text = masked_by w (address_of w text) (Some w)

-- the prefix that the text writes, if it writes one
abbrev pub block_of : ℕ → List ℕ → Option Block
block_of w text =
    if bytes_eq text (codes "default") then Some default_block
    else if list_any is_slash text then slashed_of w text else bare_of w text

-- ---- what is written of a prefix

-- the text that is written of a prefix, with its length at every length
abbrev pub prefix_text : ℕ → Block → List ℕ
prefix_text w b = address_text w b.base ++ (codes "/" ++ decimal b.len)
