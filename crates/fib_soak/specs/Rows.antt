-- What a row holds after so many changes of it, the commands that change it, and what a scan of all rows gives.
use Rattle.std.specs.Prelude.{ℕ, ◌+◌, ◌-◌, ◌%◌, max, ◌==◌, nat_lt, if◌then◌else◌, List, [], ◌∷◌, length, Option, Some, None, option_map}
use Rattle.std.specs.Int.{div_ceil}
use Rattle.prefix_width.specs.Prefix.{Block}
use Rattle.prefix_width.specs.Nexthop.{Hop}
use Rattle.prefix_width.specs.Path.{WeightedHop}
use Rattle.prefix_width.specs.Longest.{longest}
use Rattle.prefix_width.specs.declared.nexthop.NhKind.TheVariants.{Via}
use Rattle.rib_store.specs.declared.command.Command.{Command}
use Rattle.rib_store.specs.declared.command.Command.TheVariants.{Add, Change, Delete}
use Rattle.fib_soak.specs.declared.rows.Row.{Row}
use Rattle.fib_soak.specs.declared.rows.Row.TheVariants.{One, Two}

-- how often the row at a place has changed after so many turns, of which number 0 changes the row at place 0 and each
-- the next one of so many rows
abbrev pub changes_of : ℕ → ℕ → ℕ → ℕ
changes_of turns place rows = div_ceil (turns - place) (max rows 1)

-- the host that a change of this number brings the row at a place to
abbrev pub host_of : ℕ → ℕ → ℕ
host_of place change = (place + change) % 64

-- the nexthop by a host of 192.0.2.0/26
abbrev pub hop_by : ℕ → Hop
hop_by host = record { kind = Via; gateway = 3221225984 + host % 64; iface = 0; mtu = 0 }

-- the path by a host
abbrev pub path_by : ℕ → ℕ → WeightedHop
path_by host weight = record { nexthop = hop_by host; weight = weight }

-- the row at a place after so many changes of it
abbrev pub row_of : ℕ → ℕ → Option Row
row_of place changes =
    if changes % 4 == 2 then Some (Two (host_of place (changes - 1)) (host_of place changes))
    else if changes % 4 == 3 then None
    else Some (One (host_of place changes))

-- the command of a row's change of this number: another gateway, a second one beside it, none at all, and a new row
abbrev pub change_of : Block → ℕ → ℕ → Command 32
change_of prefix place change =
    if change % 4 == 1 then Change prefix (path_by (host_of place change) 1)
    else if change % 4 == 2 then Add prefix (path_by (host_of place change) 2)
    else if change % 4 == 3 then Delete prefix None
    else Add prefix (path_by (host_of place change) 1)

-- the host in a slot where the slots are in the order of the hosts, and the first host has one and the second has two
abbrev pub slot_of : ℕ → ℕ → ℕ → ℕ
slot_of first second slot =
    if nat_lt first second
    then (if slot == 0 then first else second)
    else (if slot == 2 then first else second)

-- the nexthop that a row gives a flow
abbrev pub hop_of : Row → ℕ → Hop
hop_of (One host) flow = hop_by host
hop_of (Two first second) flow = hop_by (slot_of first second (flow % 3))

-- the rows with this one before them, if there is one
abbrev pub with_row : Block → Option Row → List (Block × Row) → List (Block × Row)
with_row prefix None rows = rows
with_row prefix (Some row) rows = (prefix, row) ∷ rows

-- the rows of these prefixes, from a place on, after so many turns over so many
abbrev pub rows_from : ℕ → ℕ → ℕ → List Block → List (Block × Row)
rows_from turns count place [] = []
rows_from turns count place (prefix ∷ prefixes) =
    with_row prefix (row_of place (changes_of turns place count)) (rows_from turns count (place + 1) prefixes)

-- the rows of these prefixes after so many turns
abbrev pub rows_after : List Block → ℕ → List (Block × Row)
rows_after prefixes turns = rows_from turns (length prefixes) 0 prefixes

-- the nexthop of the longest row that contains the address
abbrev pub scanned : List (Block × Row) → ℕ → ℕ → Option Hop
scanned rows addr flow = option_map (λ found. hop_of found.1 flow) (longest 32 rows addr)
