use Rattle.std.proofs.Common.{subst, sym}
use Rattle.std.specs.Prelude.{All}
use Rattle.std.specs.Map.{keys_of}
use Rattle.counted_map.specs.Counts.{Counts}
use Rattle.counted_map.proofs.CountMapLemmas.{all_keys-linked}
use Rattle.nhgrp_slots.specs.Order.{spread_cmp, spread_total}
use Rattle.nhgrp_slots.specs.Spread.{IsGroup, Spread}
use Rattle.nhgrp_slots.proofs.groups.GroupTable.insert.Goals as goal

pub invariant_of-self-2 : goal.invariant_of-self-2
invariant_of-self-2 g c =
    let several = subst IsGroup (sym c.in_ok-key.ensures) c.requires.several in
    subst (λ (m : Counts Spread). All IsGroup (keys_of m)) (sym c.in_ok-insert.ensures.ok)
    (all_keys-linked spread_cmp spread_total IsGroup _ c.in_ok-key.key several c.self.invariant)
