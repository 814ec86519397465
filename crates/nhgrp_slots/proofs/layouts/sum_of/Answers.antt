use Rattle.std.proofs.Common.{arith, subst, List}
use Rattle.std.specs.Prelude.{All}
use Rattle.std.proofs.lemmas.List.{take_all}
use Rattle.prefix_width.specs.Path.{WeightedHop, IsWeight}
use Rattle.nhgrp_slots.proofs.SlotLemmas.{all_more, sum_more}
use Rattle.nhgrp_slots.proofs.layouts.sum_of.Goals as goal

pub loop-path-preserved : goal.loop-path-preserved
loop-path-preserved g c =
    let is = c.loop-path.invariant in
    let value = c.weight-sum.ensures.value in
    let allowed = c.weight-sum.ensures.allowed in
    let more = sum_more c.args.paths.now c.loop-path.path-index c.path-item.result c.loop-path-test.true c.path-item.is in
    record {
      done = omega (arith, is.done, more, value);
      bound = omega (arith, is.bound, value, allowed.1);
      each = all_more (λ p. IsWeight p.nexthop.kind p.weight) c.args.paths.now c.loop-path.path-index c.path-item.result c.loop-path-test.true c.path-item.is allowed is.each;
    }

pub returns-clause-weights : goal.returns-clause-weights
returns-clause-weights g c =
    subst (λ (ps : List WeightedHop). All (λ p. IsWeight p.nexthop.kind p.weight) ps) (take_all c.loop-path.path-index c.args.paths.now c.loop-path-test.false) c.loop-path.invariant.each
