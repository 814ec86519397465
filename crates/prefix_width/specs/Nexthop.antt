-- A nexthop: how a packet leaves.
use Rattle.std.specs.Prelude.{◌≡◌, ℕ, ◌^◌, ◌<◌, ◌≤◌}
use Rattle.prefix_width.specs.declared.nexthop.NhKind.{NhKind}
use Rattle.prefix_width.specs.declared.nexthop.NhKind.TheVariants.{Via, Direct, Blackhole, Reject}

-- what a nexthop is seen as, with 0 for what is not given
pub record Hop : Type 0 where
  pub kind : NhKind
  pub gateway : ℕ
  pub iface : ℕ
  pub mtu : ℕ

-- what the fields beside the kind may be
abbrev pub FitsKind : NhKind → ℕ → ℕ → ℕ → Type 0
FitsKind Via gateway iface mtu = Unit {0}
FitsKind Direct gateway iface mtu = (gateway ≡ 0) × (1 ≤ iface)
FitsKind Blackhole gateway iface mtu = (gateway ≡ 0) × (iface ≡ 0) × (mtu ≡ 0)
FitsKind Reject gateway iface mtu = (gateway ≡ 0) × (iface ≡ 0) × (mtu ≡ 0)

-- a nexthop of w bits
abbrev pub IsHop : ℕ → Hop → Type 0
IsHop w h = (1 ≤ w) × (w ≤ 128) × (h.gateway < 2 ^ w) × FitsKind h.kind h.gateway h.iface h.mtu

-- a kind that drops the packet
abbrev pub Drops : NhKind → Type 0
Drops Via = ⊥
Drops Direct = ⊥
Drops Blackhole = Unit {0}
Drops Reject = Unit {0}
