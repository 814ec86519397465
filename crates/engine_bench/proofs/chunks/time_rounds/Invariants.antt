use Rattle.dxr_chunks.specs.Table.{IsChunksOf}
use Rattle.engine_bench.proofs.chunks.time_rounds.Given as goal

abbrev pub invariant-loop-round : goal.invariant-loop-round
invariant-loop-round g l = IsChunksOf l.view l.table
