-- The edits so far are a batch that leads from the view at the start to that at hand.
use Rattle.engine_bench.specs.Batch.{IsBatch}
use Rattle.engine_bench.proofs.batch.edit_each.Given as goal

abbrev pub invariant-loop-prefix : goal.invariant-loop-prefix
invariant-loop-prefix g l = IsBatch l.index l.fn.view l.view l.edits.items
