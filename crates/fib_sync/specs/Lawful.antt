-- Lawful images. The indexes of a version are a map from index to target, of which nothing else is asked here.
use Rattle.std.specs.Prelude.{◌≡◌, ℕ, ◌<◌, List, length, Option, Some, None, slice_get}
use Rattle.std.specs.List.{AllZip}
use Rattle.prefix_width.specs.Prefix.{Block}
use Rattle.prefix_width.specs.Nexthop.{Hop}
use Rattle.nhgrp_slots.specs.declared.target.Target.{Target}
use Rattle.nhgrp_slots.specs.declared.target.Target.TheVariants.{One, Many}
use Rattle.nhgrp_slots.specs.Spread.{Spread, pick}
use Rattle.nhgrp_slots.specs.Target.{target_of}
use Rattle.rib_store.specs.Plan.{Planned}
use Rattle.rib_store.specs.Table.{Table}
use Rattle.plan_cut.specs.PlanCourse.{versions_of}
use Rattle.plan_cut.specs.VersionTable.{table_at}
use Rattle.engine_set.specs.declared.entry.Entry.{Entry}
use Rattle.engine_set.specs.declared.entry.Entry.TheVariants.{Nexthop, Group}
use Rattle.engine_set.specs.Engine.{Stands, kind_of}
use Rattle.engine_set.specs.Entry.{entry_at}
use Rattle.engine_set.specs.Image.{Picture}

-- the indexes of a version: the target of each index that it has
abbrev pub Names : ℕ → Type 0
Names w = ℕ → Option (Target w)

module _ {W : ℕ} where
  -- an index is sent to the nexthop, and none exactly where there is none
  abbrev pub IsSent : Names W → Option ℕ → Option Hop → Type 0
  IsSent names None None = Unit {0}
  IsSent names (Some i) (Some h) = names i ≡ Some (One h)
  IsSent names index hop = ⊥

  -- the rows of a table, each with the index of its target
  abbrev pub AreIndexed : Names W → Table → List (Block × ℕ) → Type 0
  AreIndexed names table rows = AllZip (λ row r. (r.0 ≡ row.0) × (names r.1 ≡ Some (target_of row.1))) table rows

  -- as many slots as the group has, each with the index of the nexthop that is picked there
  pub record AreSlots (names : Names W) (paths : Spread) (slots : List ℕ) : Type 0 where
    pub size : length slots ≡ length paths.layout
    pub each : (x : ℕ) → x < length slots → IsSent names (slice_get slots x) (pick paths x)

  -- the entry of an index that has this target
  abbrev pub IsEntryOf : Names W → ℕ → Option (Target W) → Option Entry → Type 0
  IsEntryOf names i None entry = entry ≡ None
  IsEntryOf names i (Some (One h)) entry = entry ≡ Some (Nexthop i)
  IsEntryOf names i (Some (Many paths)) entry = (slots : List ℕ) × (entry ≡ Some (Group i slots)) × AreSlots names paths slots

  -- the entries are those of the indexes
  abbrev pub AreEntriesOf : Names W → List Entry → Type 0
  AreEntriesOf names entries = (i : ℕ) → IsEntryOf names i (names i) (entry_at entries i)

  -- an image stands for a table, each row with its target's index
  pub record StandsForTable (names : Names W) (table : Table) (image : Picture W) : Type 0 where
    pub rows : List (Block × ℕ)
    pub indexed : AreIndexed names table rows
    pub stands : Stands image.engine rows

  -- the image is lawful for version v of the plan, which has these indexes: v is one of the plan's versions, and the image
  -- has its number, its count and its module; it has as many routes as the version's table, and stands for it; its
  -- entries are those of the indexes
  pub record IsLawful (live : ℕ) (plan : Planned W) (names : Names W) (v : ℕ) (image : Picture W) : Type 0 where
    pub listed : slice_get (versions_of live plan) v ≡ Some (record { number = image.version; count = image.count; kind = kind_of image.engine })
    pub version : image.version ≡ v
    pub routes : image.routes ≡ length (table_at live plan v)
    pub engine : StandsForTable names (table_at live plan v) image
    pub entries : AreEntriesOf names image.entries
