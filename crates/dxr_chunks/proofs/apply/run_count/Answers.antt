use Rattle.std.proofs.Common.{◌≡◌, ◌+◌, ◌≤◌, take, arith}
use Rattle.dxr_chunks.specs.declared.made.Made.{Made}
use Rattle.dxr_chunks.specs.declared.made.Made.TheVariants.{Index, Fragments}
use Rattle.dxr_chunks.specs.Chunk.{runs_of}
use Rattle.dxr_chunks.proofs.ApplyLemmas.{runs_few, runs_more}
use Rattle.dxr_chunks.proofs.apply.run_count.Goals as goal

pub loop-new-preserved : goal.loop-new-preserved
loop-new-preserved c =
    let more = runs_more c.args.news.now c.loop-new.new-index c.new-item.result c.loop-new-test.true c.new-item.is in
    let few = runs_few c.new-item.result.1 in
    let count = c.runs-count.ensures in
    record { count = omega (arith, more, count); few = omega (arith, few, count) }
