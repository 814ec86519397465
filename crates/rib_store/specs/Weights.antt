-- The weights of the paths that commands bring into a table.
use Rattle.prefix_width.specs.Path.{WeightedHop, IsWeight}
use Rattle.rib_store.specs.declared.command.Command.{Command}
use Rattle.rib_store.specs.declared.command.Command.TheVariants.{Add, Change}

-- the weight of a path is one that its kind may have
abbrev pub HasWeight : WeightedHop → Type 0
HasWeight p = IsWeight p.nexthop.kind p.weight

-- the path of a command, if it has one, has such a weight
abbrev pub IsWeighted : {w : _} → Command w → Type 0
IsWeighted (Add prefix path) = HasWeight path
IsWeighted (Change prefix path) = HasWeight path
IsWeighted command = Unit {0}
