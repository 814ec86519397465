-- The last chunks are put in, and there is room for the rest.
use Rattle.std.proofs.Common.{ℕ, ◌≤◌, vec_len}
use Rattle.dxr_chunks.specs.Chunk.{AreMade, runs_in}
use Rattle.dxr_chunks.proofs.ApplyLemmas.{IsRemaking}
use Rattle.dxr_chunks.proofs.apply.RemakingCounting.run.Given as goal

abbrev pub invariant-loop-chunk : goal.invariant-loop-chunk
invariant-loop-chunk g l = record {
  remaking : IsRemaking l.fn.self.store l.self.store l.fn.self.news.items l.self.news.items;
  made : (answer : ℕ → ℕ) × AreMade answer l.self.news.items;
  room : runs_in l.self.news.items ≤ l.self.store.runs.spare;
}

abbrev pub decreases-loop-chunk : goal.decreases-loop-chunk
decreases-loop-chunk g l = vec_len l.self.news
