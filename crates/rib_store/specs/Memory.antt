-- Which commands the table does without memory.
use Rattle.std.specs.Prelude.{Bool, true, false, Some, None}
use Rattle.rib_store.specs.declared.command.Command.{Command}
use Rattle.rib_store.specs.declared.command.Command.TheVariants.{Add, Change, Delete, Flush, Tick, Sync, Algo}

-- whether a command never wants memory: it puts no paths in
abbrev pub wants_none : {w : _} → Command w → Bool
wants_none (Add prefix path) = false
wants_none (Change prefix path) = false
wants_none (Delete prefix None) = true
wants_none (Delete prefix (Some gateway)) = false
wants_none Flush = true
wants_none (Tick ms) = true
wants_none Sync = true
wants_none (Algo setting) = true
