-- The cells are those of the rows so far.
use Rattle.std.proofs.Common.{◌<◌, take, vec_len}
use Rattle.module_trait.specs.Sweep.{IsSweep}
use Rattle.module_trait.proofs.sweep.cells_of.Given as goal

abbrev pub invariant-loop-row : goal.invariant-loop-row
invariant-loop-row g l = record {
  some : 0 < vec_len l.cells;
  sweep : IsSweep g.row.W (take l.row-index l.rows) l.cells.items l.ahead.items;
}
