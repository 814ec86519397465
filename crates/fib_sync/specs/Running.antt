-- What the first commands of a plan have left, and the last version that they made.
use Rattle.std.specs.Prelude.{◌≡◌, ◌⊎◌, ℕ, ◌+◌, ◌*◌, ◌^◌, ◌≤◌, Bool, true, false, List, length}
use Rattle.prefix_width.specs.Choice.{Suits, SettingSuits}
use Rattle.prefix_width.specs.declared.module.Setting.{Setting}
use Rattle.rib_store.specs.declared.command.Reply.{Reply}
use Rattle.rib_store.specs.Plan.{Planned}
use Rattle.rib_store.specs.Table.{Table, table_after}
use Rattle.plan_cut.specs.declared.cutter.Cut.{Cut}
use Rattle.plan_cut.specs.declared.cutter.Cut.TheVariants.{Stay, Now}
use Rattle.plan_cut.specs.Counters.{Counters}
use Rattle.plan_cut.specs.PlanCourse.{course_of, last_version, setting_after, version_at, version_before}
use Rattle.plan_cut.specs.Standing.{StandsAt}
use Rattle.plan_cut.specs.Versions.{Version}
use Rattle.fib_sync.specs.Replies.{replies_to}

-- what a runner is seen as: its plan, how many commands it has run, what they left, the last version that they made, whether
-- the plan's end made that, and whether the plan's end was asked
pub record Ran (w : ℕ) : Type 0 where
  pub plan : Planned w
  pub commands : ℕ
  pub rib : Table
  pub replies : List Reply
  pub made : Version
  pub at_end : Bool
  pub ended : Bool

-- the last version that the first n commands made, the plan's end among them where it was asked
abbrev pub last_made : {w : ℕ} → Bool → ℕ → Planned w → ℕ → Version
last_made false most plan n = version_at most plan n
last_made true most plan n = last_version most plan

-- a runner has run the first commands of its plan
pub record IsRun {w : ℕ} (most : ℕ) (r : Ran w) : Type 0 where
  pub within : r.commands ≤ length r.plan.commands
  pub rib : r.rib ≡ table_after most r.plan r.commands
  pub replies : r.replies ≡ replies_to most r.plan r.commands
  pub made : r.made ≡ last_made r.ended most r.plan r.commands
  pub all : r.ended ≡ true → r.commands ≡ length r.plan.commands
  pub by_command : r.at_end ≡ false → version_before most r.plan r.made.count ≡ r.made.number
  pub by_end : r.at_end ≡ true → version_before most r.plan (length r.plan.commands) + 1 ≡ r.made.number

-- what it keeps beside: the setting, and the numbers of its cutter
pub record IsRunner {w : ℕ} (most : ℕ) (r : Ran w) (setting : Setting) (now : Counters) : Type 0 where
  pub run : IsRun most r
  pub set : setting ≡ setting_after r.plan r.commands
  pub stands : r.ended ≡ false → StandsAt (course_of most r.plan) r.commands now
  pub suits : Suits w r.made.kind
  pub suits_setting : SettingSuits w setting
  pub early : now.moment ≤ r.commands * 2 ^ 32
  pub few : now.count ≤ r.commands
  pub waiting : now.pending ≤ r.commands

-- what a cut leaves of a version: the new where one is cut, else the old
abbrev pub kept_by : {A : Type 0} → Cut → A → A → A
kept_by Now new old = new
kept_by Stay new old = old

-- the last version is the same, or the next one, which counts n commands
abbrev pub IsMade : Version → Version → ℕ → Type 0
IsMade old new n = (new ≡ old) ⊎ ((new.number ≡ old.number + 1) × (new.count ≡ n))

-- a runner went on by one command
pub record GoesOn {w : ℕ} (old new : Ran w) : Type 0 where
  pub plan : new.plan ≡ old.plan
  pub commands : new.commands ≡ old.commands + 1
  pub ended : new.ended ≡ false
  pub made : IsMade old.made new.made new.commands

-- a runner, all of whose commands were run, asked the plan's end
pub record Ends {w : ℕ} (old new : Ran w) : Type 0 where
  pub plan : new.plan ≡ old.plan
  pub commands : new.commands ≡ old.commands
  pub rib : new.rib ≡ old.rib
  pub ended : new.ended ≡ true
  pub made : IsMade old.made new.made new.commands
