-- Where the paths of a route are kept, with their layout.
use Rattle.std.specs.Arc.{arc_value}
use Rattle.nhgrp_slots.specs.Spread.{Spread}
use Rattle.nhgrp_slots.specs.declared.paths.PathStore.{PathStore}
use Rattle.nhgrp_slots.specs.declared.paths.PathStore.TheVariants.{Single, Shared}

-- the paths that are kept
abbrev pub stored : {w : _} → PathStore w → Spread
stored (Single paths layout) = record { paths = paths; layout = layout }
stored (Shared group) = record { paths = (arc_value group).paths.items; layout = (arc_value group).layout.items }
