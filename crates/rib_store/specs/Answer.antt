-- Answer: the nexthop that scanning the whole table gives.
use Rattle.std.specs.Prelude.{ℕ, Option, option_and_then}
use Rattle.prefix_width.specs.Nexthop.{Hop}
use Rattle.prefix_width.specs.Longest.{longest}
use Rattle.nhgrp_slots.specs.Spread.{pick}
use Rattle.rib_store.specs.Table.{Table}

-- the nexthop of a flow: of the longest row that contains the address, the path in the flow's slot. None where no row
-- contains it
abbrev pub answer : ℕ → Table → ℕ → ℕ → Option Hop
answer w rows a flow = option_and_then (λ row. pick row.1 flow) (longest w rows a)
