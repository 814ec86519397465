use Rattle.std.proofs.Common.{List, ℕ, subst}
use Rattle.dxr_chunks.specs.Fragments.{index_in}
use Rattle.dxr_chunks.specs.Making.{AddsRun}
use Rattle.dxr_chunks.proofs.ChunkLemmas.{made_more, made_run, rest_more}
use Rattle.dxr_chunks.proofs.making.make_all.Goals as goal

pub loop-chunk-preserved : goal.loop-chunk-preserved
loop-chunk-preserved c =
    let cells = c.args.cells.now in
    let answer = index_in cells in
    let k = c.loop-chunk.chunk in
    let old = c.loop-chunk.news.items in
    let new = c.add_indexed.new.news.items in
    let made = c.in_ok-made.made in
    let run = c.add_run.new.fragments.items in
    let adds = subst (λ (before : List (ℕ × ℕ)). AddsRun cells k before run) c.clear.ensures.items c.in_ok-passed.ensures.run in
    let here = made_run cells run c.as_slice.result.now k made adds c.as_slice.ensures.value c.in_ok-made.ensures in
    let none = c.in_ok-add_indexed.ensures.none in
    let some = c.in_ok-add_indexed.ensures.some in
    record {
      passed = c.in_ok-passed.ensures.passed;
      made = made_more answer k made old new none some here c.loop-chunk-test.true c.loop-chunk.invariant.made;
      rest = rest_more answer k made old new none some here c.loop-chunk.invariant.rest;
    }
