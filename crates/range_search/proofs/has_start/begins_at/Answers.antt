use Rattle.std.proofs.Common.{arith, subst, refl}
use Rattle.std.specs.Map.{keys_of}
use Rattle.module_trait.specs.Starts.{IsIn}
use Rattle.range_search.proofs.SeekLemmas.{get_in, sought_left, sought_nowhere, sought_right}
use Rattle.range_search.proofs.has_start.begins_at.Goals as goal

pub returns-then-start-value : goal.returns-then-start-value
returns-then-start-value g c =
    ((λ _. subst (λ t. IsIn t (keys_of c.args.cells.now)) c.if-start-value.true (get_in c.args.cells.now _ _ c.at-start.ensures.value)), (λ _. refl))

pub loop-low-preserved-then-start-value-2 : goal.loop-low-preserved-then-start-value-2
loop-low-preserved-then-start-value-2 g c =
    sought_right c.args.cells.now c.args.value c.loop-low.low c.loop-low.high _ _ c.requires c.at-start.ensures.value c.if-start-value-2.true c.loop-low.invariant

pub loop-low-preserved : goal.loop-low-preserved
loop-low-preserved g c =
    let test = c.loop-low-test.true in
    let differ = c.if-start-value.false in
    let above = c.if-start-value-2.false in
    sought_left c.args.cells.now c.args.value c.loop-low.low c.loop-low.high _ _ c.requires c.at-start.ensures.value (omega (arith, test)) (omega (arith, differ, above)) c.loop-low.invariant

pub returns : goal.returns
returns g c =
    let test = c.loop-low-test.false in
    ((λ t. absurd (let e = t in cc)), (λ is. absurd (sought_nowhere c.args.cells.now c.args.value c.loop-low.low c.loop-low.high (omega (arith, test)) c.loop-low.invariant is)))
