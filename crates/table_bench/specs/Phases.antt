-- What the commands of a phase do to the table, and to a bare map.
use Rattle.std.specs.Prelude.{ℕ, None, Bool, true, false, ◌+◌, ◌*◌, ◌%◌, ◌^◌, List, [], ◌∷◌, fold}
use Rattle.std.specs.Map.{remove_entry}
use Rattle.std.specs.BTreeMap.{insert_entry, is_at}
use Rattle.prefix_width.specs.Prefix.{Block}
use Rattle.prefix_width.specs.Path.{WeightedHop}
use Rattle.prefix_width.specs.Order.{block_cmp}
use Rattle.prefix_width.specs.declared.nexthop.NhKind.TheVariants.{Via}
use Rattle.rib_store.specs.Table.{Table, apply}
use Rattle.rib_store.specs.declared.command.Command.{Command}
use Rattle.rib_store.specs.declared.command.Command.TheVariants.{Add, Change, Delete, Flush, Tick, Sync, Algo}
use Rattle.rib_store.specs.declared.command.Reply.{Reply}
use Rattle.rib_store.specs.declared.command.Reply.TheVariants.{Added, Changed, Deleted}
use Rattle.table_bench.specs.declared.routes.Phase.{Phase}
use Rattle.table_bench.specs.declared.routes.Phase.TheVariants.{Adds, Changes, Deletes}

-- the number behind a number below 2^18; all of them come before one comes again
abbrev pub next_number : ℕ → ℕ
next_number x = (x * 6364136223846793005 + 1442695040888963407) % 2 ^ 18

-- the path by a gateway of 192.0.2.0/24, numbered from its first host on
abbrev pub path_by : ℕ → WeightedHop
path_by number = record {
  nexthop = record { kind = Via; gateway = 3221225985 + number; iface = 0; mtu = 0 };
  weight = 1;
}

-- the command of a phase on a prefix, at a place of the phase; a change leads to the gateway behind that of the add
abbrev pub command_on : Phase → Block → ℕ → Command 32
command_on Adds prefix place = Add prefix (path_by (place % 16))
command_on Changes prefix place = Change prefix (path_by ((place % 16 + 1) % 16))
command_on Deletes prefix place = Delete prefix None

-- whether a command of the phase that is answered so has done what it asks
abbrev pub is_done : Phase → Reply → Bool
is_done Adds Added = true
is_done Changes Changed = true
is_done Deletes Deleted = true
is_done phase reply = false

-- the table after commands in profile 1, with room for so many live targets
abbrev pub table_from : {w : _} → ℕ → Table → List (Command w) → Table
table_from live rows commands = fold (λ rows command. (apply 1 live rows command).table) rows commands

-- the replies to commands, in turn
abbrev pub replies : {w : _} → ℕ → Table → List (Command w) → List Reply
replies live rows [] = []
replies live rows (command ∷ commands) =
    (apply 1 live rows command).reply ∷ replies live (apply 1 live rows command).table commands

-- what a command does to a map from prefixes to paths
abbrev pub put_or_drop : {w : _} → List (Block × WeightedHop) → Command w → List (Block × WeightedHop)
put_or_drop rows (Add prefix path) = insert_entry block_cmp rows prefix path
put_or_drop rows (Change prefix path) = insert_entry block_cmp rows prefix path
put_or_drop rows (Delete prefix gateway) = remove_entry (is_at (block_cmp prefix)) rows
put_or_drop rows Flush = rows
put_or_drop rows (Tick ms) = rows
put_or_drop rows Sync = rows
put_or_drop rows (Algo setting) = rows

-- the map after commands
abbrev pub map_from : {w : _} → List (Block × WeightedHop) → List (Command w) → List (Block × WeightedHop)
map_from rows commands = fold put_or_drop rows commands
