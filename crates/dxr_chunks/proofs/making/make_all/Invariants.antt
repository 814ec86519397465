-- The chunks so far are made.
use Rattle.std.proofs.Common.{◌*◌, ◌^◌}
use Rattle.dxr_chunks.specs.Chunk.{AreMade, AreRest}
use Rattle.dxr_chunks.specs.Fragments.{index_in}
use Rattle.dxr_chunks.specs.Making.{ArePassed}
use Rattle.dxr_chunks.proofs.making.make_all.Given as goal

abbrev pub invariant-loop-chunk : goal.invariant-loop-chunk
invariant-loop-chunk l = record {
  passed : ArePassed l.cells (l.chunk * 2 ^ 16) l.passed;
  made : AreMade (index_in l.cells) l.news.items;
  rest : AreRest (index_in l.cells) l.chunk l.news.items;
}
