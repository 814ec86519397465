use Rattle.std.proofs.Common.{◌≡◌, ◌+◌, ◌-◌, ◌/◌, arith}
use Rattle.range_search.proofs.BisectLemmas.{narrower, deeper}
use Rattle.range_search.proofs.HalfLemmas.{half_step, nothing_left}
use Rattle.range_search.proofs.bisect.index_before.Goals as goal

pub loop-size-preserved : goal.loop-size-preserved
loop-size-preserved g c =
    let size = c.loop-size.size in
    let shift : c.at-cell.new.steps - c.args.steps.now ≡ c.loop-size.steps - c.args.steps.now + 1 = omega arith in
    record {
      halfway = half_step g.S.Start.number c.args.cells.now _ c.loop-size.low size c.loop-size.index c.at-cell.result.now c.is_before-begun.result (c.loop-size.low + (size - size / 2)) c.pick_place-low.result c.pick_index-index.result (g.S.Start.number c.args.limit) (omega arith) (omega arith) c.loop-size.invariant.halfway c.at-cell.ensures.value c.is_before-begun.ensures.before (omega arith) c.pick_place-low.ensures c.pick_index-index.ensures;
      grew = omega arith;
      halved = rw shift (narrower _ size _ _ (omega arith) c.loop-size.invariant.halved);
      few = λ bits h. (let d = deeper _ size _ bits (omega arith) c.loop-size.invariant.halved h in omega arith);
    }

pub returns-clause-last : goal.returns-clause-last
returns-clause-last g c = nothing_left g.S.Start.number c.args.cells.now _ c.loop-size.low c.loop-size.size c.loop-size.index (omega arith) c.loop-size.invariant.halfway
