-- The orders of prefixes, nexthops and paths: by their fields in turn.
use Rattle.std.specs.declared.cmp.Ordering.{Ordering}
use Rattle.std.specs.Ordering.{nat_cmp, on, then_cmp}
use Rattle.prefix_width.specs.Prefix.{Block}
use Rattle.prefix_width.specs.Nexthop.{Hop}
use Rattle.prefix_width.specs.NhKind.{kind_rank}
use Rattle.prefix_width.specs.Path.{WeightedHop}

-- prefixes by address, then length
abbrev pub block_cmp : Block → Block → Ordering
block_cmp = then_cmp (on (λ b. b.base) nat_cmp) (on (λ b. b.len) nat_cmp)

-- nexthops by kind, gateway, interface and MTU
abbrev pub hop_cmp : Hop → Hop → Ordering
hop_cmp = then_cmp (on (λ h. kind_rank h.kind) nat_cmp)
    (then_cmp (on (λ h. h.gateway) nat_cmp)
    (then_cmp (on (λ h. h.iface) nat_cmp) (on (λ h. h.mtu) nat_cmp)))

-- paths by nexthop, then weight
abbrev pub path_cmp : WeightedHop → WeightedHop → Ordering
path_cmp = then_cmp (on (λ p. p.nexthop) hop_cmp) (on (λ p. p.weight) nat_cmp)
