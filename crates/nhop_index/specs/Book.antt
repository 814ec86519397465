-- What a version's indexes are seen as, and what a book of indexes keeps.
use Rattle.std.specs.Prelude.{◌≡◌, ℕ, ◌+◌, ◌*◌, ◌≤◌, List, [], length, All, Option, Some, None}
use Rattle.std.specs.Arc.{arc_value}
use Rattle.std.specs.declared.alloc.Global.{Global}
use Rattle.std.specs.declared.sync.Arc.{Arc}
use Rattle.std.specs.List.Sorted.{IsStrictlySortedBy, IsStrictlyIncreasing}
use Rattle.std.specs.Map.{keys_of}
use Rattle.prefix_width.specs.Limits.{AreBanks, AreTargets, last_index}
use Rattle.nhgrp_slots.specs.Target.{target_cmp}
use Rattle.nhgrp_slots.specs.declared.target.Target.{Target}
use Rattle.nhop_index.specs.Ages.{AreAgesOf}
use Rattle.nhop_index.specs.Indexes.{all_names, newest}
use Rattle.nhop_index.specs.Laws.{IsOneToOne}

-- the targets of a version in their order, each with its index, and the indexes that the version before hadn't
pub record Naming (w : ℕ) : Type 0 where
  pub names : List (Target w × ℕ)
  pub fresh : List ℕ

-- what holds of each version's indexes: one for each target and one target for each, from 1 to the greatest
pub record AreIndexes {w : ℕ} (K LIVE : ℕ) (n : Naming w) : Type 0 where
  pub banks : AreBanks K
  pub targets : AreTargets LIVE
  pub sorted : IsStrictlySortedBy target_cmp (keys_of n.names)
  pub few : length n.names ≤ LIVE
  pub range : All (λ e. (1 ≤ e.1) × (e.1 ≤ last_index K LIVE)) n.names
  pub one_to_one : IsOneToOne n.names
  pub ascend : IsStrictlyIncreasing n.fresh

-- what a book keeps: the last version's indexes, and how many versions ago each index was last in use
pub record Memory (w : ℕ) : Type 0 where
  pub last : List (Target w × ℕ)
  pub ages : List ℕ

-- a book that has given all these versions, the newest first
pub record Remembers {w : ℕ} (K : ℕ) (versions : List (List (Target w × ℕ))) (m : Memory w) : Type 0 where
  pub last : m.last ≡ newest versions
  pub ages : AreAgesOf K versions m.ages

-- a book has given the versions of some lists of live targets, each within the limit
pub record IsBook {w : ℕ} (K LIVE : ℕ) (m : Memory w) : Type 0 where
  pub banks : AreBanks K
  pub targets : AreTargets LIVE
  pub lives : List (List (Target w))
  pub few : All (λ live. length live ≤ LIVE) lives
  pub remembers : Remembers K (all_names target_cmp K lives) m
  pub room : length m.ages ≤ K * LIVE + 1

-- the indexes of the last version, none before the first
abbrev pub names_in : {w : ℕ} → Option (Arc (List (Target w × ℕ)) Global) → List (Target w × ℕ)
names_in None = []
names_in (Some table) = arc_value table
