-- What contracts see of a table: 65,536 direct cells by chunk, and the runs of fragments by key.
use Rattle.std.specs.Prelude.{◌≡◌, ℕ, ◌+◌, ◌*◌, ◌^◌, ◌<◌, ◌≤◌, ◌⊎◌, List, [], ◌∷◌, Option, Some, length}
use Rattle.std.proofs.Common.{inl, inr}
use Rattle.std.specs.Map.{keys_of}
use Rattle.prefix_width.specs.Prefix.{Block}
use Rattle.module_trait.specs.Edit.{IndexChange}
use Rattle.module_trait.specs.Nodes.{node_at, paged_at}
use Rattle.module_trait.specs.Rows.{AreBlocks, HaveIndexes}
use Rattle.module_trait.specs.Starts.{IsIn, index_at}
use Rattle.dxr_chunks.specs.declared.cell.Cell.{Cell}
use Rattle.dxr_chunks.specs.declared.made.Made.{Made}
use Rattle.dxr_chunks.specs.declared.store.TheConstants.{CELL_PAGE, RUN_PAGE}
use Rattle.dxr_chunks.specs.Chunk.{AreLinked, AreMade, IsChunk, IsKeptAt}
use Rattle.dxr_chunks.specs.Touch.{IsTouched}

-- the slots of a store that is written to, or the pages of a frozen copy
abbrev pub Kept : Type 0 → Type 0
Kept T = List (Option T) ⊎ List (List (Option T))

abbrev pub kept_at : {T : Type 0} → ℕ → Kept T → ℕ → Option T
kept_at size (inl slots) = node_at slots
kept_at size (inr pages) = paged_at size pages

-- the cells by chunk and the runs by key; how many pages of a store were written to since it was settled, and how many of
-- a copy were made for it
pub record Chunked : Type 0 where
  pub cells : Kept Cell
  pub runs : Kept (List (ℕ × ℕ))
  pub unsettled : ℕ
  pub made : ℕ

-- the cell of each chunk
abbrev pub cell_at : Chunked → ℕ → Option Cell
cell_at table = kept_at CELL_PAGE table.cells

-- the run at each key
abbrev pub run_at : Chunked → ℕ → Option (List (ℕ × ℕ))
run_at table = kept_at RUN_PAGE table.runs

-- the keys of cells have runs, and no two have one
abbrev pub IsLinked : Chunked → Type 0
IsLinked table = AreLinked (cell_at table) (run_at table)

-- each of the 65,536 chunks gives the answer at its addresses
abbrev pub AreRightChunks : (ℕ → ℕ) → Chunked → Type 0
AreRightChunks answer table = (k : ℕ) → k < 2 ^ 16 → IsChunk answer k (cell_at table k) (run_at table)

-- the table stands for the rows: each chunk answers as the longest match does
pub record IsChunksOf (rows : List (Block × ℕ)) (table : Chunked) : Type 0 where
  pub blocks : AreBlocks 32 rows
  pub indexed : HaveIndexes rows
  pub linked : IsLinked table
  pub chunks : AreRightChunks (index_at 32 rows) table

-- chunk k keeps its cell, and with it its key, and the run there
abbrev pub KeepsChunk : Chunked → Chunked → ℕ → Type 0
KeepsChunk old new k = IsKeptAt k (cell_at old) (cell_at new) (run_at old) (run_at new)

-- so does each chunk that no edit touches
abbrev pub KeepsUntouched : List IndexChange → Chunked → Chunked → Type 0
KeepsUntouched edits old new = (k : ℕ) → k < 2 ^ 16 → (IsTouched edits k → ⊥) → KeepsChunk old new k

-- the same cell of each chunk, and the same run at each key
pub record IsSameAs (old new : Chunked) : Type 0 where
  pub cells : (k : ℕ) → cell_at new k ≡ cell_at old k
  pub runs : (key : ℕ) → run_at new key ≡ run_at old key

-- some chunks are as they were made, and the others as they were
pub record IsRemade (old new : Chunked) (news : List (ℕ × Made)) : Type 0 where
  pub linked : IsLinked new
  pub made : (answer : ℕ → ℕ) → AreMade answer news → (k : ℕ) → IsIn k (keys_of news) → IsChunk answer k (cell_at new k) (run_at new)
  pub others : (k : ℕ) → k < 2 ^ 16 → (IsIn k (keys_of news) → ⊥) → KeepsChunk old new k
  pub pages : new.unsettled ≤ old.unsettled + 2 * length news
