use Rattle.std.proofs.Common.{◌≡◌, ℕ, ◌+◌, ◌-◌, ◌<◌, ◌≤◌, length, sym, ◌∙◌, ap, arith, inl, inr, get_or, subst}
use Rattle.std.specs.declared.cmp.Ordering.TheVariants.{Less}
use Rattle.std.proofs.lemmas.Bool.{cases_lt}
use Rattle.std.proofs.lemmas.List.{get_or_default}
use Rattle.nhgrp_slots.specs.Target.{target_cmp}
use Rattle.nhgrp_slots.specs.declared.target.Target.{Target}
use Rattle.nhgrp_slots.proofs.TargetOrder.{target_total}
use Rattle.nhop_index.proofs.SearchLemmas.{sorted_from_steps}
use Rattle.nhop_index.proofs.tests.do_ascend.Goals as goal

pub loop-i-preserved : goal.loop-i-preserved
loop-i-preserved c = λ k d h. elim (cases_lt (k + 1) c.loop-i.i) [
  | inl lt ↦ c.loop-i.invariant k d lt
  | inr ge ↦ (
      let live = c.args.live.now in
      let i = c.loop-i.i in
      let low = c.index-live-i.result in
      let high = c.index-live-i-in-loop-i.result in
      let inside : i < length live = c.loop-i-test.true in
      let here : k + 1 ≡ i = omega arith in
      let before : k ≡ i - 1 = omega arith in
      let a : get_or live k d ≡ low = ap (λ n. get_or live n d) before ∙ get_or_default live (i - 1) d low (omega arith) ∙ sym c.index-live-i.is in
      let b : get_or live (k + 1) d ≡ high = ap (λ n. get_or live n d) here ∙ get_or_default live i d high inside ∙ sym c.index-live-i-in-loop-i.is in
      ap (λ x. target_cmp x (get_or live (k + 1) d)) a ∙ ap (target_cmp low) b ∙ c.is_less.ensures c.if-not-is_less.false)
]

pub returns : goal.returns
returns c = λ _. sorted_from_steps target_cmp target_total c.args.live.now (λ k d h. c.loop-i.invariant k d (omega (arith, h, c.loop-i-test.false)))
