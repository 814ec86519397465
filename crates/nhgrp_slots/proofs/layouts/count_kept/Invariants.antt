-- The counts so far, with what the slots that are left keep, are those of all.
use Rattle.std.proofs.Common.{◌≡◌, ◌<◌, ◌+◌, ℕ, drop, length}
use Rattle.std.specs.Prelude.{slice_index_or}
use Rattle.nhgrp_slots.specs.Layout.{held, kept, taken_of}
use Rattle.nhgrp_slots.proofs.layouts.count_kept.Given as goal

abbrev pub invariant-loop-position : goal.invariant-loop-position
invariant-loop-position g l = record {
  done : (i : ℕ) → i < length l.new → slice_index_or l.counts i 0 + held (taken_of (kept l.old (drop l.position-index l.layout) l.new)) i ≡ held (taken_of (kept l.old l.layout l.new)) i;
  same : length l.counts ≡ length l.initial.counts;
}
