-- A store of cells and runs, as one chunk is made.
use Rattle.std.specs.Prelude.{◌≡◌, ◌≢◌, ℕ, ◌+◌, ◌^◌, ◌<◌, ◌≤◌}
use Rattle.module_trait.specs.Nodes.{node_at}
use Rattle.dxr_chunks.specs.declared.made.Made.{Made}
use Rattle.dxr_chunks.specs.declared.store.Store.{Store}
use Rattle.dxr_chunks.specs.Chunk.{AreLinked, IsChunk, IsKeptAt, IsMade, runs_of}

-- the keys of its cells have runs, and no two have one
abbrev pub HasLinks : Store → Type 0
HasLinks store = AreLinked (node_at store.cells.slots) (node_at store.runs.slots)

-- chunk k is as it was made, and the others as they were; a run took room for one
pub record IsPut (old new : Store) (k : ℕ) (made : Made) : Type 0 where
  pub linked : HasLinks new
  pub here : (answer : ℕ → ℕ) → IsMade answer k made → IsChunk answer k (node_at new.cells.slots k) (node_at new.runs.slots)
  pub others : (j : ℕ) → j < 2 ^ 16 → j ≢ k → IsKeptAt j (node_at old.cells.slots) (node_at new.cells.slots) (node_at old.runs.slots) (node_at new.runs.slots)
  pub room : old.runs.spare ≤ new.runs.spare + runs_of made
  pub pages : new.cells.unsettled + new.runs.unsettled ≤ old.cells.unsettled + old.runs.unsettled + 2
