-- Each command tried against both limits.
use Rattle.std.specs.Prelude.{ℕ, ◌≤◌, length}
use Rattle.rib_store.specs.declared.command.Command.{Command}
use Rattle.rib_store.specs.Limits.{routes_max}
use Rattle.rib_store.specs.Profile.{keeps}
use Rattle.rib_store.specs.Table.{Table, Outcome, placed, limited, apply_by, live_count}

-- a table within the limit of routes, and of at most so many live targets
pub record IsWithin (live : ℕ) (rows : Table) : Type 0 where
  pub room : length rows ≤ routes_max
  pub few : live_count rows ≤ live

-- what a command does by a profile where nothing limits the table
abbrev pub unlimited : {w : _} → ℕ → Table → Command w → Outcome
unlimited profile rows command = apply_by (keeps profile) placed rows command

-- the same, with both limits tried behind it, whatever the command asks
abbrev pub tried : {w : _} → ℕ → ℕ → Table → Command w → Outcome
tried profile live rows command = limited live rows (unlimited profile rows command)
