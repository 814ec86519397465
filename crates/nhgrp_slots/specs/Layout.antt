-- Layouts: the path that each slot of a group holds, by its position; and the layout that is kept when paths leave.
use Rattle.std.specs.Prelude.{ℕ, ◌*◌, ◌%◌, ◌==◌, ◌<◌, ◌≤◌, nat_le, Bool, List, [], ◌∷◌, All, length, map, Option, Some, None, slice_get, slice_index_or}
use Rattle.std.specs.List.{count_by, filter_map, list_all, position, position_or_len, range_with_len}
use Rattle.std.specs.Option.{option_and_then}
use Rattle.std.specs.Ordering.{is_eq}
use Rattle.prefix_width.specs.Nexthop.{Hop}
use Rattle.prefix_width.specs.Order.{hop_cmp}
use Rattle.nhgrp_slots.specs.PathList.{PathList, hops}
use Rattle.nhgrp_slots.specs.Slots.{slots_of, weights}

-- the positions of the paths, from 0
abbrev pub positions : PathList → List ℕ
positions ps = range_with_len 0 (length ps)

-- a layout of the paths: 1 to 64 slots, each with the position of a path
pub record IsLayout (ps : PathList) (layout : List ℕ) : Type 0 where
  pub some : 1 ≤ length layout
  pub room : length layout ≤ 64
  pub within : All (λ i. i < length ps) layout

-- the layout that the weights of the paths give
abbrev pub layout_of : PathList → List ℕ
layout_of ps = slots_of ps (positions ps)

-- the nexthop that a slot holds
abbrev pub nexthop_in : PathList → List ℕ → ℕ → Option Hop
nexthop_in ps layout slot = option_and_then (slice_get (hops ps)) (slice_get layout slot)

-- the nexthop of a flow
abbrev pub pick_in : PathList → List ℕ → ℕ → Option Hop
pick_in ps layout flow = nexthop_in ps layout (flow % length layout)

-- where the path with this nexthop stands
abbrev pub position_of : PathList → Hop → Option ℕ
position_of ps h = position (λ p. is_eq (hop_cmp h p.nexthop)) ps

-- where the nexthop at a position of the old paths stands among the new ones
abbrev pub new_position : PathList → PathList → ℕ → Option ℕ
new_position old new i = option_and_then (position_of new) (slice_get (hops old) i)

-- the slots whose nexthop stays, by its new position, and those that are free
abbrev pub kept : PathList → List ℕ → PathList → List (Option ℕ)
kept old layout new = map (new_position old new) layout

-- how many of the slots hold a position
abbrev pub held : List ℕ → ℕ → ℕ
held slots i = count_by (λ j. j == i) slots

-- the weight of the path at a position
abbrev pub weight_at : PathList → ℕ → ℕ
weight_at ps i = slice_index_or (weights ps) i 0

-- whether the path at i has no more slots for its weight than the one at j, where each has so many
abbrev pub no_fuller : PathList → (ℕ → ℕ) → ℕ → ℕ → Bool
no_fuller ps slots i j = nat_le (slots i * weight_at ps j) (slots j * weight_at ps i)

-- the first path that has the fewest slots for its weight
abbrev pub least_full : PathList → (ℕ → ℕ) → ℕ
least_full ps slots = position_or_len (λ i. list_all (no_fuller ps slots i) (positions ps)) (positions ps)

-- the slots, where each free one in turn goes to the path that is least full by then
abbrev pub filled : PathList → List ℕ → List (Option ℕ) → List ℕ
filled ps taken [] = []
filled ps taken (Some i ∷ slots) = i ∷ filled ps taken slots
filled ps taken (None ∷ slots) = least_full ps (held taken) ∷ filled ps (least_full ps (held taken) ∷ taken) slots

-- the slots that are not free
abbrev pub taken_of : List (Option ℕ) → List ℕ
taken_of slots = filter_map (λ slot. slot) slots

-- the layout of the new paths in which no slot changes whose nexthop stays
abbrev pub kept_layout : PathList → List ℕ → PathList → List ℕ
kept_layout old layout new = filled new (taken_of (kept old layout new)) (kept old layout new)
