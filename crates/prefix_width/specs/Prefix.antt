-- Containment: an address is a number below 2 ^ w, and a prefix names the addresses that share its leading bits.
use Rattle.std.specs.Prelude.{◌≡◌, ◌==◌, ℕ, ◌+◌, ◌-◌, ◌/◌, ◌*◌, ◌%◌, ◌^◌, ◌<◌, ◌≤◌, Bool, nat_le, ◌&&◌}

-- what a prefix is seen as: the block of addresses that have the first `len` bits of `base`
pub record Block : Type 0 where
  pub base : ℕ
  pub len : ℕ

-- the first `len` bits of an address of w bits, as a number
abbrev pub head_of : ℕ → ℕ → ℕ → ℕ
head_of w len a = a / 2 ^ (w - len)

-- whether the bit of an address at this place is set, the leading bit being at 0
abbrev pub bit_of : ℕ → ℕ → ℕ → Bool
bit_of w i a = a / 2 ^ (w - 1 - i) % 2 == 1

-- whether the prefix contains the address: their first `len` bits are equal
abbrev pub contains : ℕ → Block → ℕ → Bool
contains w p a = head_of w p.len a == head_of w p.len p.base

-- whether the first prefix covers the second: it is no longer and contains its address
abbrev pub covers : ℕ → Block → Block → Bool
covers w p q = nat_le p.len q.len && contains w p q.base

-- a prefix of w bits: its host bits, those behind the first `len`, are zero
abbrev pub IsBlock : ℕ → Block → Type 0
IsBlock w p = (1 ≤ w) × (w ≤ 128) × (p.len ≤ w) × (p.base < 2 ^ w) × (p.base % 2 ^ (w - p.len) ≡ 0)

-- the prefix of this length whose first bits are the address's, with the host bits cleared
abbrev pub masked_block : ℕ → ℕ → ℕ → Block
masked_block w a len = record { base = head_of w len a * 2 ^ (w - len); len = len }

-- the greatest address of a prefix
abbrev pub last_of : ℕ → Block → ℕ
last_of w p = p.base + (2 ^ (w - p.len) - 1)

-- the greatest length, at most both, at which two prefixes agree
pub record IsCommonLen (w : ℕ) (p q : Block) (n : ℕ) : Type 0 where
  pub first : n ≤ p.len
  pub second : n ≤ q.len
  pub agree : head_of w n p.base ≡ head_of w n q.base
  pub greatest : (m : ℕ) → m ≤ p.len → m ≤ q.len → head_of w m p.base ≡ head_of w m q.base → m ≤ n
