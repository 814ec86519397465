-- Tables of many live targets, and how many elements the lists have that are made of them.
use Rattle.std.specs.Prelude.{ℕ, zero, suc, ◌+◌, ◌-◌, ◌*◌, ◌/◌, ◌^◌, List, [], length}
use Rattle.prefix_width.specs.Prefix.{Block, masked_block}
use Rattle.nhgrp_slots.specs.declared.target.Target.{Target}
use Rattle.rib_store.specs.Table.{Table, apply}
use Rattle.rib_store.specs.Targets.{live}
use Rattle.rib_store.specs.declared.command.Command.{Command}
use Rattle.rib_store.specs.declared.command.Command.TheVariants.{Add, Change}
use Rattle.table_bench.specs.Phases.{path_by}
use Rattle.table_bench.specs.declared.live.Link.{Link}
use Rattle.table_bench.specs.declared.live.Link.TheVariants.{Own, Next, Far}
use Rattle.table_bench.specs.declared.lists.Listing.{Listing}
use Rattle.table_bench.specs.declared.lists.Listing.TheVariants.{Targets, Rows, Copies}

-- the /24 of a number, from 16.0.0.0 on
abbrev pub prefix_at : ℕ → Block
prefix_at number = masked_block 32 (2 ^ 28 + number * 256) 24

-- the command to the route of a number, where the gateways are numbered from `first` on
abbrev pub link_on : Link → ℕ → ℕ → Command 32
link_on Own first number = Add (prefix_at number) (path_by (first + number))
link_on Next first number = Add (prefix_at number) (path_by (first + number + 1))
link_on Far first number = Change (prefix_at number) (path_by (first + number + 4096))

-- the table after the command to so many routes, from a number on
unfoldable pub linked : ℕ → Link → ℕ → ℕ → Table → ℕ → Table
linked LIVE link first from rows zero = rows
linked LIVE link first from rows (suc n) = (apply {w = 32} 1 LIVE (linked LIVE link first from rows n) (link_on link first (from + n))).table

-- a table with so many live targets: a quarter of them are groups
abbrev pub live_table : ℕ → ℕ → ℕ → Table
live_table LIVE count first = linked LIVE Next first 0 (linked LIVE Own first 0 [] (count - count / 4)) (count / 4)

-- such a table, the last three routes of which lead to new nexthops
abbrev pub moved : ℕ → ℕ → ℕ → Table → Table
moved LIVE count first rows = linked LIVE Far first (count - count / 4 - 3) rows 3

-- how many elements a list has that a table gives, or a copy of a list of live targets
abbrev pub elements : Listing → Table → List (Target 32) → ℕ
elements Targets rows targets = length (live {w = 32} rows)
elements Rows rows targets = length rows
elements Copies rows targets = length targets
