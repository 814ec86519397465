-- Each chunk so far has a cell, at its own key.
use Rattle.std.proofs.Common.{◌≡◌, ℕ, ◌+◌, ◌<◌, ◌≤◌, Some}
use Rattle.module_trait.specs.Nodes.{node_at}
use Rattle.dxr_chunks.specs.declared.cell.Cell.TheVariants.{Direct}
use Rattle.dxr_chunks.proofs.store.Store.new.Given as goal

abbrev pub invariant-loop-chunk : goal.invariant-loop-chunk
invariant-loop-chunk l = record {
  made : (k : ℕ) → k < l.chunk → node_at l.cells.slots k ≡ Some (Direct 0);
  room : 65536 ≤ l.cells.spare + l.chunk;
}
