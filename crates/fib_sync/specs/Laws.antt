-- Laws of lawful images.
use Rattle.std.specs.Prelude.{◌≡◌, ℕ, List, length, All, Some, slice_get}
use Rattle.prefix_width.specs.Nexthop.{Hop}
use Rattle.prefix_width.specs.Prefix.{Block}
use Rattle.prefix_width.specs.Longest.{longest}
use Rattle.module_trait.specs.Rows.{index_of}
use Rattle.nhgrp_slots.specs.declared.target.Target.TheVariants.{One}
use Rattle.nhgrp_slots.specs.Spread.{Spread, IsSpread, compiled, hops}
use Rattle.rib_store.specs.Plan.{Planned}
use Rattle.rib_store.specs.Weights.{IsWeighted}
use Rattle.plan_cut.specs.VersionTable.{answer_at}
use Rattle.engine_set.specs.Engine.{Stands}
use Rattle.engine_set.specs.Entry.{resolved}
use Rattle.engine_set.specs.Image.{Picture}
use Rattle.fib_sync.specs.Lawful.{Names, AreSlots, IsLawful, IsSent}

-- for every address and flow a lawful image's index, that of the longest row, through the slots for a group, is none
-- exactly where the scan of the version's table gives none, and else is sent to the nexthop that it gives
abbrev pub LawfulImagesAnswer : ℕ → Type 0
LawfulImagesAnswer W =
    (live : ℕ) (plan : Planned W) (names : Names W) (v : ℕ) (image : Picture W)
    → All IsWeighted plan.commands
    → IsLawful live plan names v image
    → (rows : List (Block × ℕ))
    × Stands image.engine rows
    × ((addr flow : ℕ) → IsSent names (resolved image.entries flow (index_of (longest W rows addr))) (answer_at live plan v addr flow))

-- the slots that are compiled of the indexes of a group's nexthops are those of a lawful image
abbrev pub CompiledSlotsAreLawful : ℕ → Type 0
CompiledSlotsAreLawful W =
    (names : Names W) (paths : Spread) (indexes : List ℕ)
    → IsSpread paths
    → length indexes ≡ length paths.paths
    → ((k i : ℕ) (h : Hop) → slice_get indexes k ≡ Some i → slice_get (hops paths) k ≡ Some h → names i ≡ Some (One h))
    → AreSlots names paths (compiled paths indexes)
