use Rattle.std.proofs.Common.{◌≡◌, ◌+◌, ◌-◌, ◌/◌, subst, sym, arith, inl, inr}
use Rattle.std.proofs.lemmas.Bool.{cases_lt}
use Rattle.dxr_chunks.proofs.FindLemmas.{IsNarrowed, fewer, found, go_left, go_right}
use Rattle.dxr_chunks.proofs.bisect.index_in_run.Goals as goal

pub loop-size-preserved : goal.loop-size-preserved
loop-size-preserved g c =
    let size = c.loop-size.size in
    let more = c.loop-size-test.true in
    let narrowed = c.loop-size.invariant.narrowed in
    let taken : c.at.new.steps - c.args.steps.now ≡ c.loop-size.steps - c.args.steps.now + 1 = omega arith in
    record {
      narrowed = elim (cases_lt c.args.offset c.at.result.now.0) [
        | inr below ↦ subst (λ low. IsNarrowed (g.C.CellReads.cells c.args.fragments.now) c.args.first c.args.end c.args.offset low (size - size / 2)) (sym (c.forward_if_below-low.ensures.below below)) (go_right (g.C.CellReads.cells c.args.fragments.now) c.args.first c.args.end c.args.offset c.loop-size.low size (size / 2) c.at.result.now narrowed (omega (arith, more)) c.at.ensures.value below)
        | inl above ↦ subst (λ low. IsNarrowed (g.C.CellReads.cells c.args.fragments.now) c.args.first c.args.end c.args.offset low (size - size / 2)) (sym (c.forward_if_below-low.ensures.above above)) (go_left (g.C.CellReads.cells c.args.fragments.now) c.args.first c.args.end c.args.offset c.loop-size.low size (size / 2) c.at.result.now c.requires.within narrowed (omega (arith, more)) (omega arith) (omega arith) c.at.ensures.value above)
      ];
      grew = omega arith;
      few = λ bits h. (let few = c.loop-size.invariant.few bits h in rw taken (fewer size (size / 2) (c.loop-size.steps - c.args.steps.now) bits more (omega arith) (omega arith) few.0 few.1));
    }

pub returns-clause-answer : goal.returns-clause-answer
returns-clause-answer g c = λ alternating zero.
    found (g.C.CellReads.cells c.args.fragments.now) c.args.first c.args.end c.args.offset c.loop-size.low c.loop-size.size c.at-2.result.now c.requires.within c.loop-size.invariant.narrowed c.loop-size-test.false c.at-2.ensures.value alternating zero
