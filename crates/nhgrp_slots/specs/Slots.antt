-- Slots: the weights of paths compiled to positions, so that a flow's path is one remainder and one read.
use Rattle.std.specs.Prelude.{◌==◌, ◌≤◌, ℕ, suc, zero, ◌-◌, ◌*◌, ◌/◌, ◌%◌, min, Bool, List, [], ◌∷◌, ◌++◌, length, All, sum, replicate, map, Option, slice_get, if◌then◌else◌}
use Rattle.std.specs.List.{list_all}
use Rattle.prefix_width.specs.Nexthop.{Hop}
use Rattle.prefix_width.specs.Path.{IsWeight}
use Rattle.nhgrp_slots.specs.PathList.{PathList, hops}

-- the weights of the paths
abbrev pub weights : PathList → List ℕ
weights ps = map (λ p. p.weight) ps

-- one path or more, each of a weight that a path may have
abbrev pub HaveWeights : PathList → Type 0
HaveWeights ps = (1 ≤ length ps) × All (λ p. IsWeight p.nexthop.kind p.weight) ps

-- the greatest number from n down that passes the test, or 0
unfoldable pub greatest : (ℕ → Bool) → ℕ → ℕ
greatest test zero = 0
greatest test (suc n) = if test (suc n) then suc n else greatest test n

-- whether a number divides each weight
abbrev pub divides_all : List ℕ → ℕ → Bool
divides_all ws d = list_all (λ w. w % d == 0) ws

-- the greatest common divisor of the weights
abbrev pub gcd_of : List ℕ → ℕ
gcd_of [] = 0
gcd_of (w ∷ ws) = greatest (divides_all (w ∷ ws)) w

-- how many slots paths of these weights have
abbrev pub size_of : List ℕ → ℕ
size_of ws = min (sum ws / gcd_of ws) 64

-- how many of the slots that are left each weight gets, where these weights have this sum
abbrev pub shares : ℕ → ℕ → List ℕ → List ℕ
shares rem_slots rem_sum [] = []
shares rem_slots rem_sum (w ∷ ws) =
    (w * rem_slots / rem_sum) ∷ shares (rem_slots - w * rem_slots / rem_sum) (rem_sum - w) ws

-- the shares of all slots
abbrev pub shares_of : List ℕ → List ℕ
shares_of ws = shares (size_of ws) (sum ws) ws

-- each mark as often as its share says
abbrev pub fill : {X : Type 0} → List ℕ → List X → List X
fill (n ∷ ns) (x ∷ xs) = replicate n x ++ fill ns xs
fill ns xs = []

-- the slots of the paths, each path standing there as its mark
abbrev pub slots_of : {X : Type 0} → PathList → List X → List X
slots_of ps marks = fill (shares_of (weights ps)) marks

-- the nexthop of a flow by the weights alone: the path whose share of the slots holds the flow's slot
abbrev pub pick_by_weights : PathList → ℕ → Option Hop
pick_by_weights ps flow = slice_get (slots_of ps (hops ps)) (flow % size_of (weights ps))
