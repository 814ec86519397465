-- Where a control stands between two calls, the image of some version being the last that it gave.
use Rattle.std.specs.Prelude.{◌≡◌, ◌⊎◌, ℕ, ◌+◌, ◌<◌, ◌≤◌, Bool, true, false, List, length, Option, Some, None, is_some}
use Rattle.std.specs.Arc.{arc_value}
use Rattle.prefix_width.specs.Prefix.{Block}
use Rattle.rib_store.specs.Plan.{Planned}
use Rattle.plan_cut.specs.PlanCourse.{version_before}
use Rattle.plan_cut.specs.VersionTable.{table_at}
use Rattle.engine_set.specs.Engine.{SameNodes, kind_of}
use Rattle.engine_set.specs.Image.{Picture}
use Rattle.fib_edits.specs.Touching.{SameBut}
use Rattle.fib_sync.specs.declared.next_version.NextVersion.{NextVersion}
use Rattle.fib_sync.specs.declared.numbering.Numbering.{Numbering}
use Rattle.fib_sync.specs.declared.working.Working.{Working}
use Rattle.fib_sync.specs.Control.{IsImage, rows_at}
use Rattle.fib_sync.specs.Naming.{AreNamesAt}
use Rattle.fib_sync.specs.Running.{Ran, IsRun}
use Rattle.fib_sync.specs.Working.{WorksAt}

-- version v was given last. The commands run have made that one, or the next by the last of them; a prefix that they didn't
-- touch since has the row that it has in version v
pub record IsAhead {w : ℕ} (most v : ℕ) (r : Ran w) (touched : List Block) : Type 0 where
  pub run : IsRun most r
  pub high : v ≤ r.made.number
  pub low : r.made.number ≤ v + 1
  pub due : v < r.made.number → r.made.count ≡ r.commands
  pub same : SameBut touched (table_at most r.plan v) r.rib

-- the next version is due, or there is none
abbrev pub IsReady : {w : ℕ} → ℕ → Ran w → Type 0
IsReady v r = (v < r.made.number) ⊎ (r.ended ≡ true)

-- the working engine stands for the rows of an image, whose engine is a copy of it
pub record WorksFor {w : ℕ} (rows : List (Block × ℕ)) (image : Picture w) (work : Working w) : Type 0 where
  pub works : WorksAt (kind_of image.engine) rows work
  pub same : SameNodes work.engine image.engine

-- there is no working engine, or one that does
abbrev pub MayWork : {w : ℕ} → List (Block × ℕ) → Picture w → Option (Working w) → Type 0
MayWork rows image None = Unit {0}
MayWork rows image (Some work) = WorksFor rows image work

-- all parts of a control stand at its last image
pub record IsAt {w K most : ℕ} (r : Ran w) (touched : List Block) (numbering : Numbering w K most) (working : Option (Working w)) (image : Picture w) : Type 0 where
  pub ahead : IsAhead most image.version r touched
  pub names : AreNamesAt r.plan image.version numbering
  pub due : is_some numbering.next ≡ true → image.version < r.made.number
  pub pictured : IsImage K most r.plan image.version image
  pub counted : image.count ≤ r.commands
  pub works : MayWork (rows_at K most r.plan image.version) image working

-- whether the plan's end made the image's version
pub record IsByEnd {w : ℕ} (most : ℕ) (plan : Planned w) (image : Picture w) (ended : Bool) : Type 0 where
  pub by_command : ended ≡ false → version_before most plan image.count ≡ image.version
  pub by_end : ended ≡ true → version_before most plan (length plan.commands) + 1 ≡ image.version

-- the version after an image's, made of all commands run
pub record IsNextVersion {w : ℕ} (K most : ℕ) (r : Ran w) (last : Picture w) (next : NextVersion w) : Type 0 where
  pub image : IsImage K most r.plan (last.version + 1) (arc_value next.image)
  pub kept : arc_value next.kept ≡ arc_value next.image
  pub count : (arc_value next.image).count ≡ r.commands
  pub works : WorksFor (rows_at K most r.plan (last.version + 1)) (arc_value next.image) next.working
