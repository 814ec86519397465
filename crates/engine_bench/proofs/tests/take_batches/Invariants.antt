-- The table stands for the view's rows.
use Rattle.dxr_chunks.specs.Table.{IsChunksOf}
use Rattle.engine_bench.proofs.tests.take_batches.Given as goal

abbrev pub invariant-loop : goal.invariant-loop
invariant-loop g l = IsChunksOf l.view l.table
