-- Laws of the list of all versions.
use Rattle.std.specs.Prelude.{◌≡◌, ℕ, ◌+◌, ◌≤◌, Some, length, slice_get}
use Rattle.rib_store.specs.Plan.{Planned}
use Rattle.rib_store.specs.Table.{table_after}
use Rattle.prefix_width.specs.Choice.{choose}
use Rattle.plan_cut.specs.Course.{Course}
use Rattle.plan_cut.specs.Versions.{Version, latest, final, versions}
use Rattle.plan_cut.specs.PlanCourse.{setting_after, versions_of}

-- the last version that the first m commands made stands at its number in the list of all
abbrev pub VersionsAreListed : Type 0
VersionsAreListed =
    (course : Course) (m : ℕ) → m ≤ course.len
    → slice_get (versions course) (latest course m).number ≡ Some (latest course m)

-- the last version of all stands at its number, and the list has as many more as that and one
abbrev pub LastIsListed : Type 0
LastIsListed =
    (course : Course)
    → (slice_get (versions course) (final course).number ≡ Some (final course))
    × (length (versions course) ≡ (final course).number + 1)

-- each version of the list has its place as its number
abbrev pub NumbersArePlaces : Type 0
NumbersArePlaces =
    (course : Course) (v : ℕ) (version : Version) → slice_get (versions course) v ≡ Some version → version.number ≡ v

-- of two versions of a plan one behind the other the second has the module that is chosen for its table, by the setting
-- after its commands, where that of the first is the current one
abbrev pub ModulesAreChosen : Type 0
ModulesAreChosen =
    (w live : ℕ) (plan : Planned w) (v : ℕ) (current next : Version)
    → slice_get (versions_of live plan) v ≡ Some current
    → slice_get (versions_of live plan) (v + 1) ≡ Some next
    → next.kind ≡ choose w (Some current.kind) (setting_after plan next.count) (length (table_after live plan next.count))
