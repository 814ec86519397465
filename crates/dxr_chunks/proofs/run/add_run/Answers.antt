use Rattle.std.proofs.Common.{◌≡◌, ◌∙◌, ◌+◌, ◌-◌, ◌*◌, ◌<◌, ◌≤◌, ◌∷◌, ◌++◌, [], ℕ, get_or, sym, ap, subst, arith, inl, inr}
use Rattle.std.proofs.lemmas.Bool.{cases_eq}
use Rattle.std.proofs.lemmas.Option.{slice_get-get_or, slice_get_within}
use Rattle.dxr_chunks.proofs.FillLemmas.{IsFilled, filled_first, filled_more, filled_same, filled_whole, passed_chunk, past_base}
use Rattle.dxr_chunks.proofs.run.add_run.Goals as goal

pub loop-passed-init : goal.loop-passed-init
loop-passed-init c =
    let cells = c.args.cells.now in
    let some = c.requires.some in
    let within = c.requires.begun.within in
    let at = slice_get-get_or cells (c.args.begun - 1) (0, 0) (omega (arith, some, within)) in
    record {
      some = some;
      within = within;
      filled = subst (λ new. IsFilled cells (c.args.chunk * 65536) c.args.fragments.now.items new c.args.begun (get_or cells (c.args.begun - 1) (0, 0)).1) (sym c.in_ok-push.ensures.items) (filled_first cells (c.args.chunk * 65536) c.args.fragments.now.items c.args.begun (get_or cells (c.args.begun - 1) (0, 0)) c.requires.ascending some c.requires.begun at);
    }

pub overflow_sub-start : goal.overflow_sub-start
overflow_sub-start c =
    let cells = c.args.cells.now in
    let at = slice_get-get_or cells c.loop-passed.passed (0, 0) c.loop-passed-test.true in
    let past = past_base cells (c.args.chunk * 65536) c.args.fragments.now.items c.loop-passed.fragments.items c.loop-passed.passed c.loop-passed.index (get_or cells c.loop-passed.passed (0, 0)) c.requires.ascending c.loop-passed.invariant.filled at in
    let base = c.base_of-base.ensures in
    omega (arith, past, base)

pub loop-passed-preserved : goal.loop-passed-preserved
loop-passed-preserved c =
    let cells = c.args.cells.now in
    let i = c.loop-passed.passed in
    let inside = c.loop-passed-test.true in
    let cell = get_or cells i (0, 0) in
    let at = slice_get-get_or cells i (0, 0) inside in
    let base = c.base_of-base.ensures in
    let low = c.if-start-ge65536.false in
    let small : cell.0 - c.args.chunk * 65536 < 65536 = subst (λ n. cell.0 - n < 65536) base (omega (arith, low)) in
    let filled = c.loop-passed.invariant.filled in
    let old = c.args.fragments.now.items in
    let here = c.loop-passed.fragments.items in
    record {
      some = omega arith;
      within = omega (arith, inside);
      filled = elim (cases_eq cell.1 c.loop-passed.index) [
        | inl equal ↦
            subst (λ new. IsFilled cells (c.args.chunk * 65536) old new (i + 1) cell.1) (sym (c.in_ok-push_changed.ensures.same equal))
            (subst (λ n. IsFilled cells (c.args.chunk * 65536) old here (i + 1) n) (sym equal) (filled_same cells (c.args.chunk * 65536) old here i c.loop-passed.index cell c.requires.ascending filled at small equal))
        | inr differ ↦
            subst (λ new. IsFilled cells (c.args.chunk * 65536) old new (i + 1) cell.1) (sym (c.in_ok-push_changed.ensures.other differ ∙ ap (λ n. here ++ (cell.0 - n, cell.1) ∷ []) base))
            (filled_more cells (c.args.chunk * 65536) old here i c.loop-passed.index cell c.requires.ascending filled at small differ)
      ];
    }

pub returns-after-loop-passed-clause-passed : goal.returns-after-loop-passed-clause-passed
returns-after-loop-passed-clause-passed c =
    let cells = c.args.cells.now in
    let done = c.loop-passed-test.false in
    passed_chunk cells c.args.chunk c.args.fragments.now.items c.loop-passed.fragments.items c.loop-passed.passed c.loop-passed.index c.loop-passed.invariant.within c.loop-passed.invariant.filled (λ d there. absurd (let h = slice_get_within cells c.loop-passed.passed d there in omega (arith, h, done)))

pub returns-after-loop-passed-clause-run : goal.returns-after-loop-passed-clause-run
returns-after-loop-passed-clause-run c =
    let cells = c.args.cells.now in
    let done = c.loop-passed-test.false in
    filled_whole cells c.args.chunk c.args.fragments.now.items c.loop-passed.fragments.items c.loop-passed.passed c.loop-passed.index c.loop-passed.invariant.filled (λ d there. absurd (let h = slice_get_within cells c.loop-passed.passed d there in omega (arith, h, done)))

pub returns-then-start-ge65536-clause-passed : goal.returns-then-start-ge65536-clause-passed
returns-then-start-ge65536-clause-passed c =
    let cells = c.args.cells.now in
    let cell = get_or cells c.loop-passed.passed (0, 0) in
    let at = slice_get-get_or cells c.loop-passed.passed (0, 0) c.loop-passed-test.true in
    let base = c.base_of-base.ensures in
    let high = c.if-start-ge65536.true in
    let past : c.args.chunk * 65536 + 65536 ≤ cell.0 = omega (arith, base, high) in
    passed_chunk cells c.args.chunk c.args.fragments.now.items c.loop-passed.fragments.items c.loop-passed.passed c.loop-passed.index c.loop-passed.invariant.within c.loop-passed.invariant.filled (λ d there. (let e : cell ≡ d = (let q = sym at ∙ there in cc) in subst (λ (x : ℕ × ℕ). c.args.chunk * 65536 + 65536 ≤ x.0) e past))

pub returns-then-start-ge65536-clause-run : goal.returns-then-start-ge65536-clause-run
returns-then-start-ge65536-clause-run c =
    let cells = c.args.cells.now in
    let cell = get_or cells c.loop-passed.passed (0, 0) in
    let at = slice_get-get_or cells c.loop-passed.passed (0, 0) c.loop-passed-test.true in
    let base = c.base_of-base.ensures in
    let high = c.if-start-ge65536.true in
    let past : c.args.chunk * 65536 + 65536 ≤ cell.0 = omega (arith, base, high) in
    filled_whole cells c.args.chunk c.args.fragments.now.items c.loop-passed.fragments.items c.loop-passed.passed c.loop-passed.index c.loop-passed.invariant.filled (λ d there. (let e : cell ≡ d = (let q = sym at ∙ there in cc) in subst (λ (x : ℕ × ℕ). c.args.chunk * 65536 + 65536 ≤ x.0) e past))
