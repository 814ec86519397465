use Rattle.std.proofs.Common.{◌≡◌, ◌++◌, replicate}
use Rattle.nhgrp_slots.proofs.layouts.push_times.Given as goal

abbrev pub invariant-loop-n : goal.invariant-loop-n
invariant-loop-n l = l.slots.items ≡ l.initial.slots.items ++ replicate l.n l.position
