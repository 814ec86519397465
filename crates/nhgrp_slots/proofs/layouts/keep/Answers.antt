use Rattle.std.proofs.Common.{arith, ap, sym, lit<, ◌∙◌, ◌≡◌, ◌+◌, ◌++◌, ◌∷◌, List, ℕ, length, drop, get_or, subst}
use Rattle.std.specs.Prelude.{None}
use Rattle.std.proofs.lemmas.List.{length-set}
use Rattle.nhgrp_slots.specs.Layout.{IsLayout, filled, held, kept, least_full, taken_of}
use Rattle.nhgrp_slots.specs.Slots.{HaveWeights}
use Rattle.nhgrp_slots.proofs.LayoutLemmas.{all_kept, filled_free, held_le, held_more, kept_is_layout, kept_slot, least_full_first, least_full_same, length-kept_taken, zeros_at}
use Rattle.nhgrp_slots.proofs.layouts.keep.Goals as goal

pub count_kept-requires : goal.count_kept-requires
count_kept-requires g c = (lit< tt, (c.requires.layout, (c.requires.new.room, λ i. zeros_at 64 i)))

pub loop-position-init : goal.loop-position-init
loop-position-init g c = (
  taken_of (kept c.args.old.now c.args.layout.now c.args.new.now),
  ap (λ (xs : List ℕ). xs ++ filled c.args.new.now (taken_of (kept c.args.old.now c.args.layout.now c.args.new.now)) (kept c.args.old.now c.args.layout.now c.args.new.now)) c.in_ok-slots.ensures.items,
  c.count_kept.ensures.counts,
  (let most = length-kept_taken c.args.old.now c.args.layout.now c.args.new.now in let room = c.requires.layout.room in omega arith),
  c.count_kept.ensures.same,
)

pub bounds-counts-given : goal.bounds-counts-given
bounds-counts-given g c =
    let first = (least_full_first c.args.new.now (λ i. get_or c.loop-position.counts i 0) (c.requires.new.some, c.sum_of-sum.ensures.weights)).within in
    let is = c.least_full-given.ensures in
    let room = c.requires.new.room in
    omega arith

pub overflow_add-counts : goal.overflow_add-counts
overflow_add-counts g c =
    let first = (least_full_first c.args.new.now (λ i. get_or c.loop-position.counts i 0) (c.requires.new.some, c.sum_of-sum.ensures.weights)).within in
    let is = c.least_full-given.ensures in
    let count = c.loop-position.invariant.2 c.least_full-given.result (omega arith) in
    let most = held_le c.loop-position.invariant.0 c.least_full-given.result in
    let few = c.loop-position.invariant.3 in
    let room = c.requires.layout.room in
    let low = c.loop-position-test.true in
    omega arith

pub bounds-counts-given-in-loop-position : goal.bounds-counts-given-in-loop-position
bounds-counts-given-in-loop-position g c =
    let first = (least_full_first c.args.new.now (λ i. get_or c.loop-position.counts i 0) (c.requires.new.some, c.sum_of-sum.ensures.weights)).within in
    let is = c.least_full-given.ensures in
    let room = c.requires.new.room in
    omega arith

pub overflow_cast-given : goal.overflow_cast-given
overflow_cast-given g c =
    let first = (least_full_first c.args.new.now (λ i. get_or c.loop-position.counts i 0) (c.requires.new.some, c.sum_of-sum.ensures.weights)).within in
    let is = c.least_full-given.ensures in
    let room = c.requires.new.room in
    omega arith

pub loop-position-preserved : goal.loop-position-preserved
loop-position-preserved g c =
    let have : HaveWeights c.args.new.now = (c.requires.new.some, c.sum_of-sum.ensures.weights) in
    let taken : List ℕ = c.loop-position.invariant.0 in
    let counts : List ℕ = c.loop-position.counts in
    let given : ℕ = c.least_full-given.result in
    let first = (least_full_first c.args.new.now (λ i. get_or counts i 0) have).within in
    let is = c.least_full-given.ensures in
    let room = c.requires.new.room in
    let size = c.loop-position.invariant.4 in
    let few = c.loop-position.invariant.3 in
    let same : given ≡ least_full c.args.new.now (held taken) = is ∙ least_full_same c.args.new.now (λ i. get_or counts i 0) (held taken) have c.loop-position.invariant.2 in
    let free = kept_slot c.args.old.now c.args.new.now c.args.layout.now c.loop-position.position-index None c.loop-position-test.true c.in_default.ensures.value in (
      given ∷ taken,
      ap (λ (xs : List ℕ). xs ++ filled c.args.new.now (given ∷ taken) (kept c.args.old.now (drop (c.loop-position.position-index + 1) c.args.layout.now) c.args.new.now)) c.in_ok-push-2.ensures.items
          ∙ filled_free c.args.new.now taken _ _ c.loop-position.slots.items _ given free same c.loop-position.invariant.1,
      held_more counts taken given (length c.args.new.now) (omega arith) c.loop-position.invariant.2,
      (let more : length (given ∷ taken) ≡ length taken + 1 = omega arith in omega arith),
      length-set counts given _ ∙ size,
    )

pub returns-clause-layout : goal.returns-clause-layout
returns-clause-layout g c =
    let past = c.loop-position-test.false in
    let whole = all_kept c.args.old.now c.args.new.now c.args.layout.now c.loop-position.invariant.0 c.loop-position.slots.items _ c.loop-position.position-index (omega arith) c.loop-position.invariant.1 in
    subst (IsLayout c.args.new.now) (sym whole) (kept_is_layout c.args.old.now c.args.layout.now c.args.new.now (c.requires.new.some, c.sum_of-sum.ensures.weights) c.requires.layout).1
