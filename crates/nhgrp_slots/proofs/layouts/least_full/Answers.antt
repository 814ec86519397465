use Rattle.std.proofs.Common.{arith, sym, ◌≡◌, ◌<◌, ◌≤◌, ◌*◌, ◌+◌, ℕ, length, get_or, subst}
use Rattle.nhgrp_slots.specs.Layout.{weight_at}
use Rattle.nhgrp_slots.proofs.LayoutLemmas.{IsFirstLeast, first_least_next, first_least_same, least_full_is, not_less, weight_at_is, weight_at_pos}
use Rattle.nhgrp_slots.proofs.layouts.least_full.Goals.{then-is_less_full, else-is_less_full}
use Rattle.nhgrp_slots.proofs.layouts.least_full.Goals as goal

pub loop-i-preserved : goal.loop-i-preserved
loop-i-preserved g c =
    let i : ℕ = c.loop-i.i in
    let best : ℕ = c.loop-i.best in
    let slots : ℕ → ℕ = λ j. get_or c.args.counts.now j 0 in
    let weight : ℕ → ℕ = weight_at c.args.paths.now in
    let is = c.loop-i.invariant in
    let low = is.within in
    let high = c.loop-i-test.true in
    let here : weight i ≡ c.index-paths-i.result.weight = weight_at_is c.args.paths.now i c.index-paths-i.result high c.index-paths-i.is in
    let there : weight best ≡ c.index-paths-best.result.weight = weight_at_is c.args.paths.now best c.index-paths-best.result (omega arith) c.index-paths-best.is in
    elim c.if-is_less_full.branch [
      | then-is_less_full w ↦
          let less = c.is_less_full.ensures.0 w.if-is_less_full.true in
          let lower : slots i * weight best < slots best * weight i = subst (λ m. slots i * m < slots best * weight i) (sym there) (subst (λ m. slots i * c.index-paths-best.result.weight < slots best * m) (sym here) less) in
          subst (λ b. IsFirstLeast slots weight (i + 1) b) (sym w.best-is) (first_least_next slots weight i best (λ j k. weight_at_pos c.args.paths.now (c.requires.some, c.requires.weights) j (omega arith)) is lower)
      | else-is_less_full w ↦
          let more = not_less c.is_less_full.result _ _ c.is_less_full.ensures.1 w.if-is_less_full.false in
          let higher : slots best * weight i ≤ slots i * weight best = subst (λ m. slots best * weight i ≤ slots i * m) (sym there) (subst (λ m. slots best * m ≤ slots i * c.index-paths-best.result.weight) (sym here) more) in
          subst (λ b. IsFirstLeast slots weight (i + 1) b) (sym w.best-is) (first_least_same slots weight i best is higher)
    ]

pub returns : goal.returns
returns g c =
    let slots : ℕ → ℕ = λ j. get_or c.args.counts.now j 0 in
    let end : c.loop-i.i ≡ length c.args.paths.now = let past = c.loop-i-test.false in let most = c.loop-i.auto.i-end in let some = c.requires.some in omega arith in
    sym (least_full_is c.args.paths.now slots c.loop-i.best (subst (λ n. IsFirstLeast slots (weight_at c.args.paths.now) n c.loop-i.best) end c.loop-i.invariant))
