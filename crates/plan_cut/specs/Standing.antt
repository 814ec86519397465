-- Where a cutter stands in a course.
use Rattle.std.specs.Prelude.{◌≡◌, ℕ, Bool, true, false}
use Rattle.rib_store.specs.declared.command.Command.{Command}
use Rattle.rib_store.specs.declared.command.Command.TheVariants.{Tick, Sync, Algo}
use Rattle.plan_cut.specs.declared.cutter.Cut.{Cut}
use Rattle.plan_cut.specs.declared.cutter.Cut.TheVariants.{Stay, Now}
use Rattle.plan_cut.specs.Course.{Beat, Edits, Ticks, Syncs, Algos, Course}
use Rattle.plan_cut.specs.Counters.{Counters, counters_at}
use Rattle.plan_cut.specs.Versions.{latest}

-- what the cuts see of a command
abbrev pub beat_of : {w : _} → Command w → Beat
beat_of (Tick ms) = Ticks ms
beat_of Sync = Syncs
beat_of (Algo setting) = Algos
beat_of command = Edits

-- now exactly where a version is made
abbrev pub cut_of : Bool → Cut
cut_of true = Now
cut_of false = Stay

-- the cutter stands at m: it has the numbers of position m, pending since the last version that the first m commands made
abbrev pub StandsAt : Course → ℕ → Counters → Type 0
StandsAt course m now = now ≡ counters_at course (latest course m).count m
