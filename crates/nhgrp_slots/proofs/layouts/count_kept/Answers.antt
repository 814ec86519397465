use Rattle.std.proofs.Common.{arith, ap, sym, ◌∙◌, ◌≡◌, ◌+◌, List, ℕ, length, drop, get_or, subst}
use Rattle.std.proofs.lemmas.List.{length-set}
use Rattle.nhgrp_slots.specs.Layout.{held, kept, taken_of}
use Rattle.nhgrp_slots.proofs.LayoutLemmas.{count_free, count_stays, kept_count_le}
use Rattle.nhgrp_slots.proofs.layouts.count_kept.Goals.{in-Some, in_default}
use Rattle.nhgrp_slots.proofs.layouts.count_kept.Goals as goal

pub overflow_add-counts : goal.overflow_add-counts
overflow_add-counts g c =
    let few = kept_count_le c.args.old.now c.args.layout.now c.args.new.now c.in-Some.i (get_or c.loop-position.counts c.in-Some.i 0) _ c.requires.layout.room (c.loop-position.invariant.done c.in-Some.i c.in-Some.ensures.within) in
    omega arith

pub loop-position-preserved : goal.loop-position-preserved
loop-position-preserved g c = elim c.match-new_position.branch [
  | in-Some w ↦ let room = c.requires.room in let same = c.loop-position.invariant.same in let below = w.in-Some.ensures.within in record {
    done = λ i h. subst (λ (xs : List ℕ). get_or xs i 0 + held (taken_of (kept c.args.old.now (drop (c.loop-position.position-index + 1) c.args.layout.now) c.args.new.now)) i ≡ held (taken_of (kept c.args.old.now c.args.layout.now c.args.new.now)) i) (sym w.counts-is)
        (count_stays c.args.old.now c.args.new.now c.args.layout.now c.loop-position.counts c.loop-position.position-index w.in-Some.i i _ c.loop-position-test.true (omega arith) w.in-Some.ensures.value (c.loop-position.invariant.done i h));
    same = ap length w.counts-is ∙ length-set c.loop-position.counts w.in-Some.i _ ∙ same;
  }
  | in_default w ↦ record {
    done = λ i h. subst (λ (xs : List ℕ). get_or xs i 0 + held (taken_of (kept c.args.old.now (drop (c.loop-position.position-index + 1) c.args.layout.now) c.args.new.now)) i ≡ held (taken_of (kept c.args.old.now c.args.layout.now c.args.new.now)) i) (sym w.counts-is)
        (count_free c.args.old.now c.args.new.now c.args.layout.now c.loop-position.counts c.loop-position.position-index i _ c.loop-position-test.true w.in_default.ensures.value (c.loop-position.invariant.done i h));
    same = ap length w.counts-is ∙ c.loop-position.invariant.same;
  }
]
