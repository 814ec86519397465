-- The places so far, and those of the indexes that are left, are in the order of all indexes.
use Rattle.std.proofs.Common.{◌≡◌, ℕ, ◌++◌, drop, map, Option}
use Rattle.std.specs.List.{slice_get}
use Rattle.nhgrp_slots.specs.declared.target.Target.{Target}
use Rattle.nhop_index.specs.Table.{listed, turned}
use Rattle.nhop_index.proofs.places.order_of.Given as goal

abbrev pub invariant-loop-place : goal.invariant-loop-place
invariant-loop-place g l =
    map {B = Option (Target g.row.W × ℕ)} (λ p. slice_get l.names p) l.order.items
    ++ map {B = Option (Target g.row.W × ℕ)} turned (listed l.names (drop l.place-index l.places) l.place-index)
    ≡ map {B = Option (Target g.row.W × ℕ)} turned (listed l.names l.places 0)
