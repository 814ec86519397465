use Rattle.std.proofs.Common.{arith, ap, sym, ◌∙◌, ◌++◌, List, ℕ}
use Rattle.prefix_width.specs.Path.{WeightedHop}
use Rattle.nhgrp_slots.proofs.LayoutLemmas.{layout_from, pushed_then}
use Rattle.nhgrp_slots.proofs.SlotLemmas.{sum_more}
use Rattle.nhgrp_slots.proofs.layouts.layout_of.Goals as goal

pub loop-i-preserved : goal.loop-i-preserved
loop-i-preserved g c =
    let ps : List WeightedHop = c.args.paths.now in
    let i : ℕ = c.loop-i.i in
    let weight = c.weight-weight.ensures.value in
    let is = c.loop-i.invariant in
    let more = sum_more ps i c.index-paths-i.result c.loop-i-test.true c.index-paths-i.is in
    let from = layout_from c.loop-i.rem_slots c.loop-i.rem_sum ps i c.weight-weight.result c.index-paths-i.result c.loop-i-test.true c.index-paths-i.is weight in
    record {
      done = pushed_then c.loop-i.slots.items c.push_times.new.slots.items _ _ _ c.in_ok-push_times.ensures (ap (λ (xs : List ℕ). c.loop-i.slots.items ++ xs) (sym from) ∙ is.done);
      total = let t = is.total in omega (arith, t, more, weight);
      few = let f = is.few in omega (arith, f);
    }
