use Rattle.std.proofs.Common.{◌≡◌, ◌∙◌, ap, map, sym, subst}
use Rattle.std.specs.Prelude.{slice_index_or}
use Rattle.nhgrp_slots.specs.Spread.{HoldPicked, compiled}
use Rattle.nhgrp_slots.proofs.SpreadLemmas.{slots_hold_picked}
use Rattle.nhgrp_slots.proofs.slots.compile.Goals as goal

pub returns-clause-picked : goal.returns-clause-picked
returns-clause-picked g c =
    let whole : c.in_ok-indexes.indexes.value.items ≡ compiled c.args.paths.now c.args.indexes.now =
    ap (λ v. v.items) c.in_ok-indexes.ensures.ok ∙ c.in_ok-slots.ensures ∙ ap (map (λ i. slice_index_or c.args.indexes.now i 0)) c.layout.ensures.items in
    subst (HoldPicked c.args.paths.now c.args.indexes.now) (sym whole) (slots_hold_picked c.args.paths.now c.args.indexes.now c.layout.ensures.spread c.requires)
