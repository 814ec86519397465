-- A table in the making, chunk by chunk, from cells whose starts ascend.
use Rattle.std.specs.Prelude.{◌≡◌, ℕ, ◌^◌, List, Some, length, slice_get}
use Rattle.dxr_chunks.specs.Fragments.{index_in}
use Rattle.dxr_table.specs.Dxr.{Dxr, HasChunks, AreRightChunks}

-- the first n chunks are made, and no fragment is behind them
pub record AreMade (cells : List (ℕ × ℕ)) (n : ℕ) (table : Dxr) : Type 0 where
  pub shape : HasChunks n table
  pub last : slice_get table.firsts n ≡ Some (length table.fragments)
  pub chunks : AreRightChunks (index_in cells) n table

-- each of the 65,536 chunks answers as the cells do
abbrev pub AnswersAs : List (ℕ × ℕ) → Dxr → Type 0
AnswersAs cells table = AreRightChunks (index_in cells) (2 ^ 16) table
