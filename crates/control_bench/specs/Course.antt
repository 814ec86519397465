-- The changes of a course, and that they lead elsewhere.
use Rattle.std.specs.Prelude.{ℕ, ◌+◌, ◌/◌, ◌%◌, List, length, Option, slice_get, option_map}
use Rattle.prefix_width.specs.Prefix.{Block}
use Rattle.prefix_width.specs.Path.{WeightedHop}
use Rattle.prefix_width.specs.declared.nexthop.NhKind.TheVariants.{Via}
use Rattle.rib_store.specs.declared.command.Command.{Command}
use Rattle.rib_store.specs.declared.command.Command.TheVariants.{Change}

-- the path by a host of 192.0.2.0/24
abbrev pub path_by : ℕ → WeightedHop
path_by host = record {
  nexthop = record { kind = Via; gateway = 3221225984 + host; iface = 0; mtu = 0 };
  weight = 1;
}

-- the host to which a turn leads its route, where the route at a place was added by host `place % 64`: each turn over all
-- routes leads them to the next one
abbrev pub host_at : ℕ → ℕ → ℕ
host_at routes turn = (turn % routes % 64 + 1 + turn / routes % 64) % 64

-- the change of a turn
abbrev pub change_at : List Block → ℕ → Option (Command 32)
change_at prefixes turn =
    option_map (λ prefix. Change prefix (path_by (host_at (length prefixes) turn))) (slice_get prefixes (turn % length prefixes))
