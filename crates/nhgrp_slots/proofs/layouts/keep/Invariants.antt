-- The slots so far, with those that the others then get, are all; the counts are of what is taken by then.
use Rattle.std.proofs.Common.{◌≡◌, ◌≤◌, ◌<◌, ◌+◌, ◌++◌, ℕ, List, drop, length}
use Rattle.std.specs.Prelude.{slice_index_or}
use Rattle.nhgrp_slots.specs.Layout.{filled, held, kept, kept_layout}
use Rattle.nhgrp_slots.proofs.layouts.keep.Given as goal

abbrev pub invariant-loop-position : goal.invariant-loop-position
invariant-loop-position g l =
    (taken : List ℕ)
    × (l.slots.items ++ filled l.new taken (kept l.old (drop l.position-index l.layout) l.new) ≡ kept_layout l.old l.layout l.new)
    × ((i : ℕ) → i < length l.new → slice_index_or l.counts i 0 ≡ held taken i)
    × (length taken ≤ 64 + l.position-index)
    × (length l.counts ≡ 64)
