-- The order of nexthops is total, and nexthops that it finds equal are one.
use Rattle.std.proofs.Common.{◌≡◌, refl, arith}
use Rattle.std.specs.Cmp.{IsTotalOrder}
use Rattle.std.specs.Ordering.{nat_cmp, ordering_then}
use Rattle.std.specs.declared.cmp.Ordering.{Ordering}
use Rattle.std.specs.declared.cmp.Ordering.TheVariants.{Less, Equal, Greater}
use Rattle.std.proofs.lemmas.Cmp.{nat_cmp_total, on_total, then_total}
use Rattle.std.proofs.lemmas.Map.Lookups.{CmpEqualImpliesEq, exact_unsigned}
use Rattle.prefix_width.specs.NhKind.{kind_rank}
use Rattle.prefix_width.specs.Order.{hop_cmp}
use Rattle.prefix_width.specs.declared.nexthop.NhKind.{NhKind}
use Rattle.prefix_width.specs.declared.nexthop.NhKind.TheVariants.{Via, Direct, Blackhole, Reject}

-- where the first of two comparisons decides first, equal means that both are
pub then_equal : (a b : Ordering) → ordering_then a b ≡ Equal → (a ≡ Equal) × (b ≡ Equal)
then_equal Less b e = absurd cc
then_equal Equal b e = (refl, e)
then_equal Greater b e = absurd cc

kind_from_rank : (a b : NhKind) → kind_rank a ≡ kind_rank b → a ≡ b
kind_from_rank Via Via e = refl
kind_from_rank Direct Direct e = refl
kind_from_rank Blackhole Blackhole e = refl
kind_from_rank Reject Reject e = refl
kind_from_rank a b e = absurd (omega arith)

pub hop_total : IsTotalOrder hop_cmp
hop_total =
    then_total (on_total (λ h. kind_rank h.kind) nat_cmp_total)
    (then_total (on_total (λ h. h.gateway) nat_cmp_total)
    (then_total (on_total (λ h. h.iface) nat_cmp_total) (on_total (λ h. h.mtu) nat_cmp_total)))

pub hop_exact : CmpEqualImpliesEq hop_cmp
hop_exact x y e =
    let kinds = then_equal (nat_cmp (kind_rank x.kind) (kind_rank y.kind)) _ e in
    let gateways = then_equal (nat_cmp x.gateway y.gateway) _ kinds.1 in
    let ends = then_equal (nat_cmp x.iface y.iface) _ gateways.1 in
    let kind = kind_from_rank x.kind y.kind (exact_unsigned _ _ kinds.0) in
    let gateway = exact_unsigned _ _ gateways.0 in
    let iface = exact_unsigned _ _ ends.0 in
    let mtu = exact_unsigned _ _ ends.1 in
    λ i. record { kind = kind i; gateway = gateway i; iface = iface i; mtu = mtu i }
