-- Direct cells by the leading half of an address of 32 bits, and runs of fragments by the other half. The addresses with
-- one value k of the 16 leading bits are chunk k.
use Rattle.std.specs.Prelude.{◌≡◌, ◌⊎◌, ℕ, ◌+◌, ◌^◌, ◌<◌, ◌≤◌, List, [], length, slice_index, slice_range}
use Rattle.prefix_width.specs.Prefix.{Block}
use Rattle.module_trait.specs.Rows.{AreBlocks, HaveIndexes}
use Rattle.module_trait.specs.Starts.{index_at}
use Rattle.dxr_chunks.specs.Fragments.{AreFragments, IsDirect}

-- what a table is seen as: the place of each chunk's first fragment, with the number of all fragments behind them; the
-- index of each chunk that has no fragment; and the fragments of all chunks, each a start inside its chunk with an index
pub record Dxr : Type 0 where
  pub firsts : List ℕ
  pub indexes : List ℕ
  pub fragments : List (ℕ × ℕ)

-- the fragments of a chunk: from its first one to the next chunk's
abbrev pub run_of : Dxr → ℕ → List (ℕ × ℕ)
run_of table k = slice_range table.fragments (slice_index table.firsts k) (slice_index table.firsts (k + 1))

-- chunk k has no fragment, and one index is its answer, or it has a run of two fragments or more
abbrev pub IsChunk : (ℕ → ℕ) → ℕ → ℕ → List (ℕ × ℕ) → Type 0
IsChunk answer k index run = ((run ≡ []) × IsDirect answer k index) ⊎ ((2 ≤ length run) × AreFragments answer k run)

-- each of the first n chunks has its place among the fragments, behind the one before it
pub record HasChunks (n : ℕ) (table : Dxr) : Type 0 where
  pub firsts : length table.firsts ≡ n + 1
  pub indexes : length table.indexes ≡ n
  pub ordered : (k : ℕ) → k < n → slice_index table.firsts k ≤ slice_index table.firsts (k + 1)
  pub within : (k : ℕ) → k ≤ n → slice_index table.firsts k ≤ length table.fragments

-- each of the first n chunks gives the answer at its addresses
abbrev pub AreRightChunks : (ℕ → ℕ) → ℕ → Dxr → Type 0
AreRightChunks answer n table = (k : ℕ) → k < n → IsChunk answer k (slice_index table.indexes k) (run_of table k)

-- the table stands for the rows: each of the 65,536 chunks answers as the longest match does
pub record IsDxrOf (rows : List (Block × ℕ)) (table : Dxr) : Type 0 where
  pub blocks : AreBlocks 32 rows
  pub indexed : HaveIndexes rows
  pub chunks : AreRightChunks (index_at 32 rows) (2 ^ 16) table
