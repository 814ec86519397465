-- The table, and what commands do to it: said on the list of its rows.
use Rattle.std.specs.Prelude.{ℕ, ◌+◌, ◌-◌, nat_le, nat_lt, List, [], ◌∷◌, length, All, fold, filter, not, Bool, Option, Some, None, if◌then◌else◌}
use Rattle.std.specs.List.{list_any}
use Rattle.std.specs.List.Sorted.{IsStrictlySortedBy}
use Rattle.std.specs.Map.{lookup, remove_entry, keys_of, values_of}
use Rattle.std.specs.BTreeMap.{insert_entry, is_at}
use Rattle.prefix_width.specs.Prefix.{Block}
use Rattle.prefix_width.specs.Path.{WeightedHop}
use Rattle.prefix_width.specs.Order.{block_cmp}
use Rattle.nhgrp_slots.specs.PathList.{IsPathList, put_path, clashes, goes_by}
use Rattle.nhgrp_slots.specs.Spread.{Spread, has_via, spread, without}
use Rattle.rib_store.specs.Limits.{routes_max}
use Rattle.rib_store.specs.Live.{live_hops, live_groups}
use Rattle.rib_store.specs.Plan.{Planned, plan_until}
use Rattle.rib_store.specs.Profile.{keeps}
use Rattle.rib_store.specs.declared.command.Command.{Command}
use Rattle.rib_store.specs.declared.command.Command.TheVariants.{Add, Change, Delete, Flush, Tick, Sync, Algo}
use Rattle.rib_store.specs.declared.command.Reply.{Reply}
use Rattle.rib_store.specs.declared.command.Reply.TheVariants.{Added, Joined, Changed, Deleted, Flushed, Nothing, Refused}
use Rattle.rib_store.specs.declared.command.Refusal.{Refusal}
use Rattle.rib_store.specs.declared.command.Refusal.TheVariants.{Exists, NotFound, PathsFull, TableFull, TargetsFull}

-- rows of prefix and paths with their layout, in prefix order, one row a prefix
abbrev pub Table : Type 0
Table = List (Block × Spread)

-- a table, and the profile by which commands change it
pub record Profiled : Type 0 where
  pub profile : ℕ
  pub rows : Table

-- the paths of a prefix's row, if it has one
abbrev pub paths_at : Table → Block → Option Spread
paths_at rows b = lookup (is_at (block_cmp b)) rows

-- the table with these paths as the prefix's row, put in its place
abbrev pub put_row : Table → Block → Spread → Table
put_row rows b paths = insert_entry block_cmp rows b paths

-- the table without the prefix's row
abbrev pub drop_row : Table → Block → Table
drop_row rows b = remove_entry (is_at (block_cmp b)) rows

-- the rows that a flush leaves: those with no path by a gateway
abbrev pub left_by_flush : Table → Table
left_by_flush rows = filter (λ row. not (has_via row.1)) rows

-- how many targets are live: the distinct nexthops of all paths, and the distinct groups
abbrev pub live_count : Table → ℕ
live_count rows = length (live_hops (values_of rows)) + length (live_groups (values_of rows))

-- a table, and the reply to the command that made it
pub record Outcome : Type 0 where
  pub table : Table
  pub reply : Reply

-- the command is refused, and the table stays
abbrev pub refused : Table → Refusal → Outcome
refused rows why = record { table = rows; reply = Refused why }

-- what was made of these rows, unless it has too many routes or more than so many live targets
abbrev pub limited : ℕ → Table → Outcome → Outcome
limited live rows made =
    if nat_lt routes_max (length made.table) then refused rows TableFull
    else if nat_lt live (live_count made.table) then refused rows TargetsFull
    else made

-- what comes of paths that are to be the prefix's row
abbrev pub Settling : Type 0
Settling = Table → Block → Spread → Reply → Outcome

-- they are its row
abbrev pub placed : Settling
placed rows b paths reply = record { table = put_row rows b paths; reply = reply }

-- they are its row, unless there would then be too many routes or more than so many live targets
abbrev pub settled : ℕ → Settling
settled live rows b paths reply = limited live rows (placed rows b paths reply)

-- the prefix's row is gone
abbrev pub dropped : Table → Block → Outcome
dropped rows b = record { table = drop_row rows b; reply = Deleted }

-- `add`, where these are the paths of the prefix: a new row, or one path more in its place
abbrev pub added : Settling → Table → Block → WeightedHop → Option Spread → Outcome
added settle rows b p None = settle rows b (spread (p ∷ [])) Added
added settle rows b p (Some old) =
    if clashes old.paths p then refused rows Exists
    else if nat_le 64 (length old.paths) then refused rows PathsFull
    else settle rows b (spread (put_path old.paths p)) Joined

-- these paths in place of those of the prefix, where it has a row
abbrev pub replaced : Settling → Table → Block → Spread → Reply → Option Spread → Outcome
replaced settle rows b paths reply None = refused rows NotFound
replaced settle rows b paths reply (Some old) = settle rows b paths reply

-- `change`: the one path in place of those before
abbrev pub changed : Settling → Table → Block → WeightedHop → Option Spread → Outcome
changed settle rows b p old = replaced settle rows b (spread (p ∷ [])) Changed old

-- the paths that are left are the prefix's row, and the row is gone where none is left
abbrev pub shortened : Settling → Table → Block → Option Spread → Outcome
shortened settle rows b None = dropped rows b
shortened settle rows b (Some paths) = settle rows b paths Deleted

-- `delete`: the whole row, or its paths by the gateway, where layouts are kept or not
abbrev pub deleted : Bool → Settling → Table → Block → Option ℕ → Option Spread → Outcome
deleted keep settle rows b gateway None = refused rows NotFound
deleted keep settle rows b None (Some old) = dropped rows b
deleted keep settle rows b (Some gateway) (Some old) =
    if list_any (goes_by gateway) old.paths then shortened settle rows b (without keep gateway old)
    else refused rows NotFound

-- `flush`: every row that has a path by a gateway is gone, and the reply is their number
abbrev pub flushed : Table → Outcome
flushed rows = record { table = left_by_flush rows; reply = Flushed (length rows - length (left_by_flush rows)) }

-- what a command does, where layouts are kept or not, by what comes of paths that are to be a row
abbrev pub apply_by : {w : _} → Bool → Settling → Table → Command w → Outcome
apply_by keep settle rows (Add prefix path) = added settle rows prefix path (paths_at rows prefix)
apply_by keep settle rows (Change prefix path) = changed settle rows prefix path (paths_at rows prefix)
apply_by keep settle rows (Delete prefix gateway) = deleted keep settle rows prefix gateway (paths_at rows prefix)
apply_by keep settle rows Flush = flushed rows
apply_by keep settle rows (Tick ms) = record { table = rows; reply = Nothing }
apply_by keep settle rows Sync = record { table = rows; reply = Nothing }
apply_by keep settle rows (Algo setting) = record { table = rows; reply = Nothing }

-- apply: what a command does by a profile to a table that has room for so many live targets, and the reply
abbrev pub apply : {w : _} → ℕ → ℕ → Table → Command w → Outcome
apply profile live rows command = apply_by (keeps profile) (settled live) rows command

-- the table after the commands of a plan, by its profile
abbrev pub table_of : {w : _} → ℕ → Planned w → Table
table_of live plan = fold (λ rows command. (apply plan.profile live rows command).table) [] plan.commands

-- fold: the table after the first c commands of a plan
abbrev pub table_after : {w : _} → ℕ → Planned w → ℕ → Table
table_after live plan c = table_of live (plan_until c plan)

-- what every table is: rows in strictly ascending order of their prefixes, each with a list of paths
pub record IsTable (rows : Table) : Type 0 where
  pub ascending : IsStrictlySortedBy block_cmp (keys_of rows)
  pub lists : All (λ s. IsPathList s.paths) (values_of rows)
