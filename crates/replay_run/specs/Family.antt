-- One family of a replay, which has taken the first commands of its plan.
use Rattle.std.specs.Prelude.{◌≡◌, ◌⊎◌, ◌==◌, ◌&&◌, not, ℕ, ◌+◌, ◌<◌, ◌≤◌, Bool, true, false, List, Option, Some, None, length}
use Rattle.std.specs.Arc.{arc_value}
use Rattle.nhgrp_slots.specs.declared.target.Target.{Target}
use Rattle.rib_store.specs.Plan.{Planned}
use Rattle.rib_store.specs.declared.command.Reply.{Reply}
use Rattle.rib_store.specs.declared.command.Reply.TheVariants.{Flushed}
use Rattle.rib_store.specs.Table.{table_after}
use Rattle.plan_cut.specs.PlanCourse.{last_version, version_before, versions_of}
use Rattle.engine_set.specs.Image.{Picture}
use Rattle.fib_sync.specs.Control.{Controlled, IsControl, IsImage}
use Rattle.fib_sync.specs.VersionNames.{naming_at}
use Rattle.replay_run.specs.declared.family.Ahead.{Ahead}
use Rattle.replay_run.specs.declared.family.Last.{Last}
use Rattle.replay_run.specs.declared.family.Ahead.TheVariants.{Unasked, Given, Finished}

-- of how many commands it is known which versions they make, so many being taken: where the control was not asked for the
-- next version of those taken alone, else of all that it has run
abbrev pub known_of : {w : ℕ} → Controlled w → ℕ → Ahead w → ℕ
known_of control commands Unasked = commands
known_of control commands (Given image) = control.commands
known_of control commands Finished = control.commands

-- what a family is seen as: its plan, how many commands were taken, and of how many it is known which versions they make
pub record Followed (w : ℕ) : Type 0 where
  pub plan : Planned w
  pub commands : ℕ
  pub known : ℕ

-- whether the control was asked for the next version
abbrev pub is_asked : {w : ℕ} → Ahead w → Bool
is_asked Unasked = false
is_asked (Given image) = true
is_asked Finished = true

-- whether the version ahead is one that the last of so many commands has made
abbrev pub is_made_by : {w : ℕ} → Controlled w → ℕ → Ahead w → Bool
is_made_by control commands Unasked = false
is_made_by control commands (Given image) = ((arc_value image).count == commands) && not control.ended
is_made_by control commands Finished = false

-- the control has given the version behind the last one made, which the commands taken have not made
pub record IsGivenAhead {w : ℕ} (most : ℕ) (control : Controlled w) (commands : ℕ) (image : Picture w) : Type 0 where
  pub same : image ≡ control.image
  pub next : image.version ≡ version_before most control.plan commands + 1
  pub counted : control.commands ≡ image.count
  pub later : (commands < image.count) ⊎ (control.ended ≡ true)

-- all commands are run, and the plan has no version behind the last one made
pub record HasNoneAhead {w : ℕ} (most : ℕ) (control : Controlled w) (commands : ℕ) : Type 0 where
  pub last : control.image.version ≡ version_before most control.plan commands
  pub all : control.commands ≡ length control.plan.commands
  pub none : length (versions_of most control.plan) ≡ control.image.version + 1

-- how far the control is ahead of the commands taken
abbrev pub IsAhead : {w : ℕ} → ℕ → Controlled w → ℕ → Ahead w → Type 0
IsAhead most control commands Unasked = control.image.version ≡ version_before most control.plan commands
IsAhead most control commands (Given image) = IsGivenAhead most control commands (arc_value image)
IsAhead most control commands Finished = HasNoneAhead most control commands

-- a family has the image of the last version that the commands taken have made, and its indexes
pub record IsFamily {w : ℕ} (K most : ℕ) (c : Controlled w) (n : ℕ) (last : Picture w) (names : List (Target w × ℕ)) (next : Ahead w) : Type 0 where
  pub control : IsControl K most c
  pub within : n ≤ c.commands
  pub image : IsImage K most c.plan (version_before most c.plan n) last
  pub naming : names ≡ naming_at K most c.plan (version_before most c.plan n)
  pub ahead : IsAhead most c n next

-- the last version of a plan, its end included: its number, how many routes its table has, and its module
pub record IsLast {w : ℕ} (most : ℕ) (plan : Planned w) (last : Last) : Type 0 where
  pub version : last.version ≡ (last_version most plan).number
  pub routes : last.routes ≡ length (table_after most plan (last_version most plan).count)
  pub kind : last.kind ≡ (last_version most plan).kind

-- a line's position in a plan of which so many commands were taken: it is the next one, if the line has one
abbrev pub IsNext : Option ℕ → ℕ → ℕ → Type 0
IsNext None commands len = Unit {0}
IsNext (Some pos) commands len = (pos ≡ commands) × (commands < len)

-- a reply that a table of at most so many routes gives: no more routes were flushed
abbrev pub FlushesAtMost : ℕ → Reply → Type 0
FlushesAtMost most (Flushed routes) = routes ≤ most
FlushesAtMost most reply = Unit {0}
