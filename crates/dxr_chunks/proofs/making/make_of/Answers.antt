use Rattle.std.proofs.Common.{◌≡◌, List, ℕ, subst}
use Rattle.dxr_chunks.specs.Making.{AddsRun}
use Rattle.dxr_chunks.proofs.ChunkLemmas.{made_run}
use Rattle.dxr_chunks.proofs.making.make_of.Goals as goal

pub returns : goal.returns
returns c =
    let cells = c.args.cells.now in
    let run = c.add_run.new.fragments.items in
    let adds = subst (λ (old : List (ℕ × ℕ)). AddsRun cells c.args.chunk old run) c.new-run.ensures.items c.in_ok-add_run.ensures.run in
    made_run cells run c.as_slice.result.now c.args.chunk c.in_ok-made.made adds c.as_slice.ensures.value c.in_ok-made.ensures
