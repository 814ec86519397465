use Rattle.std.proofs.Common.{◌∷◌, [], ap, sym, List, ℕ}
use Rattle.nhgrp_slots.specs.Spread.{Spread}
use Rattle.nhgrp_slots.proofs.SpreadLemmas.{layout_of_one, spread_of_one}
use Rattle.nhgrp_slots.proofs.paths.Paths.one.Goals as goal

pub invariant_of-result : goal.invariant_of-result
invariant_of-result g c = spread_of_one c.args.path c.weight-weight.ensures.allowed

pub returns : goal.returns
returns g c = ap (λ (layout : List ℕ). let s : Spread = record { paths = c.args.path ∷ []; layout = layout } in s) (sym (layout_of_one c.args.path c.weight-weight.ensures.allowed))
