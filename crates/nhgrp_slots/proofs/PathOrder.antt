-- Paths that the order finds equal are one.
use Rattle.std.proofs.Common.{[], ◌∷◌, refl}
use Rattle.std.specs.Cmp.Lexicographic.{slice_cmp}
use Rattle.std.specs.Ordering.{nat_cmp}
use Rattle.std.proofs.lemmas.Map.Lookups.{CmpEqualImpliesEq, exact_unsigned}
use Rattle.prefix_width.specs.Order.{hop_cmp, path_cmp}
use Rattle.prefix_width.proofs.OrderLemmas.{hop_exact, then_equal}
use Rattle.nhgrp_slots.specs.Order.{paths_cmp, spread_cmp}

pub path_exact : CmpEqualImpliesEq path_cmp
path_exact x y e =
    let parts = then_equal (hop_cmp x.nexthop y.nexthop) _ e in
    let nexthop = hop_exact x.nexthop y.nexthop parts.0 in
    let weight = exact_unsigned _ _ parts.1 in
    λ i. record { nexthop = nexthop i; weight = weight i }

pub paths_exact : CmpEqualImpliesEq paths_cmp
paths_exact [] [] e = refl
paths_exact [] (y ∷ ys) e = absurd cc
paths_exact (x ∷ xs) [] e = absurd cc
paths_exact (x ∷ xs) (y ∷ ys) e =
    let parts = then_equal (path_cmp x y) (paths_cmp xs ys) e in
    let first = path_exact x y parts.0 in
    let rest = paths_exact xs ys parts.1 in
    λ i. first i ∷ rest i

layout_exact : CmpEqualImpliesEq (slice_cmp nat_cmp)
layout_exact [] [] e = refl
layout_exact [] (y ∷ ys) e = absurd cc
layout_exact (x ∷ xs) [] e = absurd cc
layout_exact (x ∷ xs) (y ∷ ys) e =
    let parts = then_equal (nat_cmp x y) (slice_cmp nat_cmp xs ys) e in
    let first = exact_unsigned x y parts.0 in
    let rest = layout_exact xs ys parts.1 in
    λ i. first i ∷ rest i

pub spread_exact : CmpEqualImpliesEq spread_cmp
spread_exact x y e =
    let parts = then_equal (paths_cmp x.paths y.paths) (slice_cmp nat_cmp x.layout y.layout) e in
    let paths = paths_exact x.paths y.paths parts.0 in
    let layout = layout_exact x.layout y.layout parts.1 in
    λ i. record { paths = paths i; layout = layout i }
