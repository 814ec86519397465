-- The targets named so far, with those that are left, are all; what is used grows with them.
use Rattle.std.proofs.Common.{◌≡◌, ℕ, ◌+◌, ◌<◌, ◌≤◌, List, ◌++◌, length, drop, Some}
use Rattle.std.specs.Prelude.{All}
use Rattle.std.specs.List.{slice_get}
use Rattle.std.specs.List.Sorted.{IsStrictlyIncreasing}
use Rattle.nhgrp_slots.specs.Target.{target_cmp}
use Rattle.nhgrp_slots.specs.declared.target.Target.{Target}
use Rattle.nhop_index.specs.Ages.{Walks}
use Rattle.nhop_index.specs.Indexes.{named, fresh_in}
use Rattle.nhop_index.specs.Merge.{ArePast, Covers}
use Rattle.nhop_index.proofs.naming.name_targets.Given as goal

abbrev pub invariant-loop-target : goal.invariant-loop-target
invariant-loop-target g l = record {
  room : l.next ≤ 1 + length l.ages + l.target-index;
  past : (k : ℕ) (t : Target g.row.W) → l.target-index ≤ k → slice_get l.live k ≡ Some t → ArePast target_cmp l.before l.place t;
  rises : IsStrictlyIncreasing l.fresh.items × All (λ i. i < l.next) l.fresh.items;
  named : (u : List ℕ) → Walks g.row.K u l.ages 1 →
      (v : List ℕ) × Walks g.row.K v l.ages l.next
      × (Covers u l.before → Covers v l.before × (l.fresh.items ≡ fresh_in l.before l.names.items))
      × (l.names.items ++ named target_cmp l.before (drop l.target-index l.live) v ≡ named target_cmp l.before l.live u);
}
