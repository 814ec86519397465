use Rattle.std.proofs.Common.{sym, ap, ◌∙◌, subst, ℕ, List, ◌++◌, [], ◌∷◌, take}
use Rattle.std.proofs.lemmas.List.{take_all}
use Rattle.prefix_width.specs.Path.{WeightedHop}
use Rattle.nhgrp_slots.specs.Slots.{weights}
use Rattle.nhgrp_slots.proofs.DivisorLemmas.{IsGcdOf, IsGcdOf-nil, IsGcdOf-push, gcd_of_is, gcd_of_pos}
use Rattle.nhgrp_slots.proofs.SlotLemmas.{positive, some_weights, weights_more}
use Rattle.nhgrp_slots.proofs.divisor.common_divisor.Goals as goal

pub loop-path-init : goal.loop-path-init
loop-path-init g c = IsGcdOf-nil

pub loop-path-preserved : goal.loop-path-preserved
loop-path-preserved g c =
    let before : List ℕ = weights (take c.loop-path.path-index c.args.paths.now) in
    let more = weights_more c.args.paths.now c.loop-path.path-index c.path-item.result c.loop-path-test.true c.path-item.is in
    let pushed = IsGcdOf-push before c.weight.result _ _ c.loop-path.invariant c.gcd-divisor.ensures in
    subst (λ ws. IsGcdOf ws c.gcd-divisor.result) (ap (λ w. before ++ w ∷ []) c.weight.ensures.value ∙ sym more) pushed

pub returns : goal.returns
returns g c =
    let all = take_all c.loop-path.path-index c.args.paths.now c.loop-path-test.false in
    let is : IsGcdOf (weights c.args.paths.now) c.loop-path.divisor = subst (λ (ps : List WeightedHop). IsGcdOf (weights ps) c.loop-path.divisor) all c.loop-path.invariant in
    let some = some_weights c.args.paths.now c.requires in
    let pos = positive c.args.paths.now c.requires in
    record { value = sym (gcd_of_is _ _ some pos is); some = gcd_of_pos _ _ some pos is }
