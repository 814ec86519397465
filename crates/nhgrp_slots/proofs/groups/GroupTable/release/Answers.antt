use Rattle.std.proofs.Common.{subst, sym}
use Rattle.std.specs.Prelude.{All}
use Rattle.std.specs.Map.{keys_of}
use Rattle.counted_map.specs.Counts.{Counts}
use Rattle.counted_map.proofs.CountMapLemmas.{all_keys-unlinked}
use Rattle.nhgrp_slots.specs.Order.{spread_cmp, spread_total}
use Rattle.nhgrp_slots.specs.Spread.{IsGroup, Spread}
use Rattle.nhgrp_slots.proofs.groups.GroupTable.release.Goals as goal

pub invariant_of-self : goal.invariant_of-self
invariant_of-self g c =
    subst (λ (m : Counts Spread). All IsGroup (keys_of m)) (sym c.release.ensures.less)
    (all_keys-unlinked spread_cmp spread_total IsGroup _ c.args.group.now c.self.invariant)
