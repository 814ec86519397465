-- The chunks so far are made, in order.
use Rattle.std.proofs.Common.{◌≡◌, take}
use Rattle.std.specs.Map.{keys_of}
use Rattle.module_trait.specs.Starts.{index_at}
use Rattle.dxr_chunks.specs.Chunk.{AreMade}
use Rattle.dxr_chunks.proofs.making.make_each.Given as goal

abbrev pub invariant-loop-chunk : goal.invariant-loop-chunk
invariant-loop-chunk g l = record {
  made : AreMade (index_at 32 l.view) l.news.items;
  keys : keys_of l.news.items ≡ take l.chunk-index l.chunks;
}
