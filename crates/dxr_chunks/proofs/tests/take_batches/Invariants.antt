-- The table stands for the view's rows.
use Rattle.dxr_chunks.specs.Table.{IsChunksOf}
use Rattle.dxr_chunks.proofs.tests.take_batches.Given as goal

abbrev pub invariant-loop-i : goal.invariant-loop-i
invariant-loop-i g l = IsChunksOf l.view l.table
