-- The control and the publisher of one family, which has published each image that the control gave.
use Rattle.std.specs.Prelude.{◌≡◌, ◌⊎◌, ℕ, ◌+◌, Bool, true, false, length}
use Rattle.atomic_table.specs.Seated.{TableId}
use Rattle.rib_store.specs.Plan.{Planned}
use Rattle.plan_cut.specs.PlanCourse.{versions_of}
use Rattle.epoch_core.specs.SeatViews.{ControlView}
use Rattle.fib_sync.specs.Control.{Controlled, IsControl}

-- they are of the plan, at this table of so many readers, and the last image is published. The control has run no command
-- behind those of its last image, or has given the plan's last version
pub record IsAbreast {w : ℕ} (K most : ℕ) (table : TableId) (plan : Planned w) (readers : ℕ) (control : Controlled w) (publisher : ControlView (Planned w)) : Type 0 where
  pub of_plan : control.plan ≡ plan
  pub is_control : IsControl K most control
  pub at_table : publisher.table ≡ table
  pub keyed : publisher.key ≡ plan
  pub counted : publisher.own.readers ≡ readers
  pub version : publisher.own.version ≡ control.image.version
  pub ran : (control.commands ≡ control.image.count) ⊎ (length (versions_of most plan) ≡ control.image.version + 1)

-- all versions of the plan are published, and all commands are run
pub record IsThrough {w : ℕ} (K most : ℕ) (table : TableId) (plan : Planned w) (readers : ℕ) (control : Controlled w) (publisher : ControlView (Planned w)) : Type 0 where
  pub abreast : IsAbreast K most table plan readers control publisher
  pub all : control.commands ≡ length plan.commands
  pub last : length (versions_of most plan) ≡ control.image.version + 1

-- there was a next version, which is published, or there is none
abbrev pub GoesOn : {w : ℕ} → ℕ → ℕ → TableId → Planned w → ℕ → Controlled w → Controlled w → ControlView (Planned w) → Bool → Type 0
GoesOn K most table plan readers old control publisher true =
    IsAbreast K most table plan readers control publisher × (control.image.version ≡ old.image.version + 1)
GoesOn K most table plan readers old control publisher false = IsThrough K most table plan readers control publisher
