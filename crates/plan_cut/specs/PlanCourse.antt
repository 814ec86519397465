-- The course of a plan, and its versions, where a table has room for so many live targets.
use Rattle.std.specs.Prelude.{ℕ, zero, suc, Bool, true, false, nat_lt, Option, Some, None, List, length, fold}
use Rattle.std.specs.List.{slice_get}
use Rattle.prefix_width.specs.declared.module.Kind.{Kind}
use Rattle.prefix_width.specs.declared.module.Setting.{Setting}
use Rattle.prefix_width.specs.declared.module.Setting.TheVariants.{Auto}
use Rattle.prefix_width.specs.Choice.{choose}
use Rattle.rib_store.specs.declared.command.Command.{Command}
use Rattle.rib_store.specs.declared.command.Command.TheVariants.{Algo}
use Rattle.rib_store.specs.declared.command.Reply.{Reply}
use Rattle.rib_store.specs.declared.command.Reply.TheVariants.{Added, Joined, Changed, Deleted, Flushed, Nothing, Refused}
use Rattle.rib_store.specs.Plan.{Planned, plan_until}
use Rattle.rib_store.specs.Table.{Table, apply, table_after}
use Rattle.plan_cut.specs.Course.{Beat, Edits, Course}
use Rattle.plan_cut.specs.Versions.{Version, latest, final, versions}
use Rattle.plan_cut.specs.Standing.{beat_of}

-- whether a reply is that to an accepted change, a flush being one where it took out a route
abbrev pub is_accepted : Reply → Bool
is_accepted Added = true
is_accepted Joined = true
is_accepted Changed = true
is_accepted Deleted = true
is_accepted (Flushed routes) = nat_lt 0 routes
is_accepted Nothing = false
is_accepted (Refused refusal) = false

-- what the cuts see of the command, if there is one
abbrev pub beat_in : {w : _} → Option (Command w) → Beat
beat_in None = Edits
beat_in (Some command) = beat_of command

-- whether the command, if there is one, is by the profile an accepted change of the table
abbrev pub changed_in : {w : _} → ℕ → ℕ → Table → Option (Command w) → Bool
changed_in profile live rows None = false
changed_in profile live rows (Some command) = is_accepted (apply profile live rows command).reply

-- the setting behind a command
abbrev pub set_by : {w : _} → Setting → Command w → Setting
set_by setting (Algo new) = new
set_by setting command = setting

-- the setting after the first m commands of a plan: that of the last algo among them, auto without one
abbrev pub setting_after : {w : _} → Planned w → ℕ → Setting
setting_after plan m = fold set_by Auto (plan_until m plan).commands

-- what command m is to the cuts, counted from 1
unfoldable pub beat_at : {w : _} → Planned w → ℕ → Beat
beat_at plan zero = Edits
beat_at plan (suc m) = beat_in (slice_get plan.commands m)

-- whether command m is an accepted change of the table after those before it
unfoldable pub changed_at : {w : _} → ℕ → Planned w → ℕ → Bool
changed_at live plan zero = false
changed_at live plan (suc m) = changed_in plan.profile live (table_after live plan m) (slice_get plan.commands m)

-- the module that is chosen for the table after the first m commands, by the setting after them, where this is the current one
abbrev pub choice_at : {w : _} → ℕ → Planned w → ℕ → Kind → Kind
choice_at {w} live plan m kind = choose w (Some kind) (setting_after plan m) (length (table_after live plan m))

-- the course of a plan
abbrev pub course_of : {w : _} → ℕ → Planned w → Course
course_of live plan =
    record { len = length plan.commands; beat = beat_at plan; changed = changed_at live plan; choice = choice_at live plan }

-- the last version that one of the first m commands of a plan made, version 0 without one
abbrev pub version_at : {w : _} → ℕ → Planned w → ℕ → Version
version_at live plan m = latest (course_of live plan) m

-- before: the greatest number of a version that is 0 or was made by one of the first m commands
abbrev pub version_before : {w : _} → ℕ → Planned w → ℕ → ℕ
version_before live plan m = (version_at live plan m).number

-- the last version of a plan, its end included
abbrev pub last_version : {w : _} → ℕ → Planned w → Version
last_version live plan = final (course_of live plan)

-- all versions of a plan
abbrev pub versions_of : {w : _} → ℕ → Planned w → List Version
versions_of live plan = versions (course_of live plan)
