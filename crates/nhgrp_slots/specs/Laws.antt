-- Laws of slots and layouts.
use Rattle.std.specs.Prelude.{◌≡◌, ℕ, ◌≤◌, ◌/◌, Bool, IsTrue, List, Some, length, map, sum}
use Rattle.prefix_width.specs.Nexthop.{Hop}
use Rattle.nhgrp_slots.specs.Layout.{IsLayout, kept_layout, layout_of, nexthop_in, pick_in}
use Rattle.nhgrp_slots.specs.PathList.{PathList, IsPathList, names}
use Rattle.nhgrp_slots.specs.Slots.{HaveWeights, weights, gcd_of, size_of, shares_of, slots_of, pick_by_weights}
use Rattle.nhgrp_slots.specs.Spread.{Spread, IsSpread, spread, left_spread, compiled, HoldPicked}

-- there are 1 to 64 slots, and the shares are all of them
abbrev pub SharesAreAll : Type 0
SharesAreAll =
    (ps : PathList) → HaveWeights ps
    → (1 ≤ size_of (weights ps)) × (size_of (weights ps) ≤ 64) × (sum (shares_of (weights ps)) ≡ size_of (weights ps))

-- all slots are filled
abbrev pub SlotsAreFilled : Type 0
SlotsAreFilled =
    (ps : PathList) (indexes : List ℕ) → HaveWeights ps → length indexes ≡ length ps
    → length (slots_of ps indexes) ≡ size_of (weights ps)

-- where the weights by their greatest common divisor have a sum of at most 64, these are the shares
abbrev pub SmallSharesAreExact : Type 0
SmallSharesAreExact =
    (ps : PathList) → HaveWeights ps → sum (weights ps) / gcd_of (weights ps) ≤ 64
    → shares_of (weights ps) ≡ map (λ w. w / gcd_of (weights ps)) (weights ps)

-- a flow's slot holds the index of the path whose nexthop is picked for the flow
abbrev pub SlotsHoldPicked : Type 0
SlotsHoldPicked =
    (s : Spread) (indexes : List ℕ) → IsSpread s → length indexes ≡ length s.paths → HoldPicked s indexes (compiled s indexes)

-- a slot whose nexthop is among the new paths holds it in the layout that is kept
abbrev pub KeepsWhatStays : Type 0
KeepsWhatStays =
    (old : PathList) (layout : List ℕ) (new : PathList) (slot : ℕ) (h : Hop) → nexthop_in old layout slot ≡ Some h
    → IsTrue (names h new) → nexthop_in new (kept_layout old layout new) slot ≡ Some h

-- the layout that is kept has as many slots, and is one of the new paths
abbrev pub KeptIsLayout : Type 0
KeptIsLayout =
    (old : PathList) (layout : List ℕ) (new : PathList) → HaveWeights new → IsLayout old layout
    → (length (kept_layout old layout new) ≡ length layout) × IsLayout new (kept_layout old layout new)

-- the layout that weights give is one of the paths, and picks for each flow the path whose share holds the flow's slot
abbrev pub LayoutIsOfPaths : Type 0
LayoutIsOfPaths =
    (ps : PathList) → HaveWeights ps
    → IsLayout ps (layout_of ps) × ((flow : ℕ) → pick_in ps (layout_of ps) flow ≡ pick_by_weights ps flow)

-- paths with the layout that their weights give are the paths of a route
abbrev pub SpreadsAreOfPaths : Type 0
SpreadsAreOfPaths = (ps : PathList) → IsPathList ps → HaveWeights ps → IsSpread (spread ps)

-- so are those that are left of the paths of a route, whether layouts are kept or not
abbrev pub LeftAreSpreads : Type 0
LeftAreSpreads =
    (keeps : Bool) (old : Spread) (new : PathList) → IsSpread old → IsPathList new → HaveWeights new
    → IsSpread (left_spread keeps old new)
