-- The runs so far.
use Rattle.std.proofs.Common.{◌≡◌, ◌≤◌, take}
use Rattle.dxr_chunks.specs.Chunk.{runs_in}
use Rattle.dxr_chunks.proofs.apply.run_count.Given as goal

abbrev pub invariant-loop-new : goal.invariant-loop-new
invariant-loop-new l = record {
  count : l.count ≡ runs_in (take l.new-index l.news);
  few : l.count ≤ l.new-index;
}
