-- The order of targets is total, and targets that it finds equal are one.
use Rattle.std.proofs.Common.{◌≡◌, ℕ, ap, refl}
use Rattle.std.specs.Cmp.{IsTotalOrder}
use Rattle.std.specs.Ordering.{ordering_reverse}
use Rattle.std.specs.declared.cmp.Ordering.TheVariants.{Less, Equal}
use Rattle.std.proofs.lemmas.Map.Lookups.{CmpEqualImpliesEq}
use Rattle.prefix_width.specs.Nexthop.{Hop}
use Rattle.prefix_width.proofs.OrderLemmas.{hop_total, hop_exact}
use Rattle.nhgrp_slots.specs.Order.{spread_total}
use Rattle.nhgrp_slots.specs.Spread.{Spread}
use Rattle.nhgrp_slots.specs.Target.{target_cmp}
use Rattle.nhgrp_slots.specs.declared.target.Target.{Target}
use Rattle.nhgrp_slots.specs.declared.target.Target.TheVariants.{One, Many}
use Rattle.nhgrp_slots.proofs.PathOrder.{spread_exact}

module _ {w : ℕ} where
  pub target_total : IsTotalOrder (target_cmp {w = w})
  target_total = record { antisymm = anti; trans = tr; congr = co }
    where
      anti : (x y : Target w) → target_cmp x y ≡ ordering_reverse (target_cmp y x)
      anti (One x) (One y) = hop_total.antisymm x y
      anti (One x) (Many y) = refl
      anti (Many x) (One y) = refl
      anti (Many x) (Many y) = spread_total.antisymm x y

      tr : (x y z : Target w) → target_cmp x y ≡ Less → target_cmp y z ≡ Less → target_cmp x z ≡ Less
      tr (One x) (One y) (One z) h k = hop_total.trans x y z h k
      tr (One x) (One y) (Many z) h k = refl
      tr (One x) (Many y) (One z) h k = absurd (let e = k in cc)
      tr (One x) (Many y) (Many z) h k = refl
      tr (Many x) (One y) z h k = absurd (let e = h in cc)
      tr (Many x) (Many y) (One z) h k = absurd (let e = k in cc)
      tr (Many x) (Many y) (Many z) h k = spread_total.trans x y z h k

      co : (x y z : Target w) → target_cmp x y ≡ Equal → target_cmp x z ≡ target_cmp y z
      co (One x) (One y) (One z) h = hop_total.congr x y z h
      co (One x) (One y) (Many z) h = refl
      co (One x) (Many y) z h = absurd (let e = h in cc)
      co (Many x) (One y) z h = absurd (let e = h in cc)
      co (Many x) (Many y) (One z) h = refl
      co (Many x) (Many y) (Many z) h = spread_total.congr x y z h

  pub target_exact : CmpEqualImpliesEq (target_cmp {w = w})
  target_exact (One x) (One y) h = ap (λ (g : Hop). let t : Target w = One g in t) (hop_exact x y h)
  target_exact (One x) (Many y) h = absurd (let e = h in cc)
  target_exact (Many x) (One y) h = absurd (let e = h in cc)
  target_exact (Many x) (Many y) h = ap (λ (g : Spread). let t : Target w = Many g in t) (spread_exact x y h)
