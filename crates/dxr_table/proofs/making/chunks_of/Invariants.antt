-- The chunks so far are made, and the cells below the next one are passed.
use Rattle.std.proofs.Common.{◌*◌, ◌^◌}
use Rattle.dxr_chunks.specs.Making.{ArePassed}
use Rattle.dxr_table.specs.Making.{AreMade}
use Rattle.dxr_table.proofs.making.chunks_of.Given as goal

abbrev pub invariant-loop-chunk : goal.invariant-loop-chunk
invariant-loop-chunk l = record {
  passed : ArePassed l.cells (l.chunk * 2 ^ 16) l.passed;
  made : AreMade l.cells l.chunk l.chunks;
}
