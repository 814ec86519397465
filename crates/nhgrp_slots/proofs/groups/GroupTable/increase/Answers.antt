use Rattle.std.proofs.Common.{◌≡◌, subst, sym, Bool, true, false}
use Rattle.std.specs.Prelude.{All}
use Rattle.std.specs.Bool.{OnTrue, OnFalse}
use Rattle.std.specs.Map.{keys_of}
use Rattle.counted_map.specs.Counts.{Counts, linked}
use Rattle.counted_map.proofs.CountMapLemmas.{all_keys-linked}
use Rattle.nhgrp_slots.specs.Order.{spread_cmp, spread_total}
use Rattle.nhgrp_slots.specs.Spread.{IsGroup, Spread}
use Rattle.nhgrp_slots.proofs.groups.GroupTable.increase.Goals as goal

-- what is a group before is one after, whether a use is counted or not
groups_stay : (b : Bool) (m n : Counts Spread) (k : Spread) → OnTrue b (n ≡ linked spread_cmp m k) → OnFalse b (n ≡ m) → IsGroup k → All IsGroup (keys_of m) → All IsGroup (keys_of n)
groups_stay true m n k more same several all =
    subst (λ (x : Counts Spread). All IsGroup (keys_of x)) (sym more) (all_keys-linked spread_cmp spread_total IsGroup m k several all)
groups_stay false m n k more same several all =
    subst (λ (x : Counts Spread). All IsGroup (keys_of x)) (sym same) all

pub invariant_of-self : goal.invariant_of-self
invariant_of-self g c =
    groups_stay c.increase.result _ _ c.args.group.now c.increase.ensures.more c.increase.ensures.same c.requires.several c.self.invariant
