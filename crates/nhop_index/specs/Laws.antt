-- Laws of indexes.
use Rattle.std.specs.Prelude.{◌≡◌, ℕ, ◌+◌, ◌<◌, ◌≤◌, true, false, List, [], ◌∷◌, length, All, ◌⊎◌, Some, IsSome}
use Rattle.std.specs.List.{slice_get}
use Rattle.std.specs.Map.{keys_of}
use Rattle.prefix_width.specs.Limits.{last_index}
use Rattle.nhgrp_slots.specs.Spread.{Spread}
use Rattle.nhgrp_slots.specs.Target.{target_cmp}
use Rattle.nhgrp_slots.specs.declared.target.Target.{Target}
use Rattle.nhgrp_slots.specs.declared.target.Target.TheVariants.{One, Many}
use Rattle.nhop_index.specs.Indexes.{is_used, least_unused, index_in, all_names}

-- the index i is that of the target t
abbrev pub IsNamed : {X : Type 0} → X → ℕ → List (X × ℕ) → Type 0
IsNamed t i [] = ⊥
IsNamed t i (e ∷ es) = (e ≡ (t, i)) ⊎ IsNamed t i es

-- an index is that of one target at most
abbrev pub IsOneToOne : {X : Type 0} → List (X × ℕ) → Type 0
IsOneToOne {X} names = (t s : X) (i : ℕ) → IsNamed t i names → IsNamed s i names → t ≡ s

-- an index of two targets is so in versions that are K apart or more. `ys` is d versions after `xs`
abbrev pub IndexesApart : ℕ → Type 0
IndexesApart w =
    (K : ℕ) (lives : List (List (Target w))) (a d : ℕ) (xs ys : List (Target w × ℕ)) (t s : Target w) (i : ℕ)
    → 2 ≤ K → d < K → slice_get (all_names target_cmp K lives) a ≡ Some ys → slice_get (all_names target_cmp K lives) (a + d) ≡ Some xs
    → IsNamed t i xs → IsNamed s i ys → t ≡ s

-- with at most LIVE live targets a version there is always an index up to the greatest
abbrev pub IndexesFit : ℕ → Type 0
IndexesFit w =
    (K LIVE : ℕ) (lives : List (List (Target w))) (a : ℕ) (live : List (Target w)) (xs : List (Target w × ℕ))
    → 1 ≤ K → All (λ ts. length ts ≤ LIVE) lives → slice_get lives a ≡ Some live → slice_get (all_names target_cmp K lives) a ≡ Some xs
    → (keys_of xs ≡ live) × All (λ e. (1 ≤ e.1) × (e.1 ≤ last_index K LIVE)) xs

-- the least unused index is unused, and each below it is used
abbrev pub LeastIsUnused : Type 0
LeastIsUnused =
    (used : List ℕ)
    → (1 ≤ least_unused used) × (is_used used (least_unused used) ≡ false)
    × ((j : ℕ) → 1 ≤ j → j < least_unused used → is_used used j ≡ true)

-- a target is one of these
abbrev pub IsLive : {w : _} → Target w → List (Target w) → Type 0
IsLive t [] = ⊥
IsLive t (s ∷ ts) = (s ≡ t) ⊎ IsLive t ts

-- the nexthops of each group are among the targets
abbrev pub IsClosed : {w : _} → List (Target w) → Type 0
IsClosed {w} targets =
    (s : Spread) → IsLive {w = w} (Many s) targets → All (λ p. IsLive {w = w} (One p.nexthop) targets) s.paths

-- where the nexthops of each group are live, each nexthop of a group that has an index has one
abbrev pub NexthopsAreNamed : ℕ → Type 0
NexthopsAreNamed w =
    (names : List (Target w × ℕ)) (s : Spread) → IsClosed (keys_of names) → IsSome (index_in target_cmp names (Many s))
    → All (λ p. IsSome (index_in target_cmp names (One p.nexthop))) s.paths
