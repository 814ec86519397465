use Rattle.dxr_chunks.specs.Table.{IsChunksOf}
use Rattle.engine_bench.proofs.chunks.time_singles.Given as goal

abbrev pub invariant-loop-i : goal.invariant-loop-i
invariant-loop-i g l = IsChunksOf l.view l.table
