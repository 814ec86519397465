-- The sweep over rows by address, which makes their cells.
use Rattle.std.specs.Prelude.{◌≡◌, ℕ, ◌<◌, ◌≤◌, ◌==◌, List, [], ◌∷◌, ◌++◌, All, if◌then◌else◌}
use Rattle.std.specs.declared.cmp.Ordering.TheVariants.{Less}
use Rattle.std.specs.Map.{keys_of}
use Rattle.prefix_width.specs.Prefix.{Block}
use Rattle.prefix_width.specs.Order.{block_cmp}
use Rattle.module_trait.specs.Rows.{AreBlocks}
use Rattle.module_trait.specs.Starts.{AreRight, starts_of}

-- the cells of rows, cut at the sweep's address, which is no further than every address from all rows on
pub record IsSweep (w : ℕ) (rows : List (Block × ℕ)) (cells ahead : List (ℕ × ℕ)) : Type 0 where
  pub blocks : AreBlocks w rows
  pub starts : keys_of (cells ++ ahead) ≡ starts_of w rows
  pub right : AreRight w rows (cells ++ ahead)
  pub reached : (t : ℕ) → All (λ r. r.0.base ≤ t) rows → All (λ cell. cell.0 ≤ t) cells

-- the row comes after all of these
abbrev pub ComesAfter : List (Block × ℕ) → Block × ℕ → Type 0
ComesAfter rows row = All (λ r. block_cmp r.0 row.0 ≡ Less) rows

-- the next cell ahead, if there is one, is past the address
abbrev pub IsPast : ℕ → List (ℕ × ℕ) → Type 0
IsPast a [] = Unit {0}
IsPast a (cell ∷ ahead) = a < cell.0

-- the cells with one at this start put last, in place of one that is there
abbrev pub begun : List (ℕ × ℕ) → ℕ × ℕ → ℕ → ℕ → List (ℕ × ℕ)
begun most last start index = (if last.0 == start then most else most ++ last ∷ []) ++ (start, index) ∷ []

-- the cells ahead with one at this start put first, unless one is there
abbrev pub with_end : List (ℕ × ℕ) → ℕ → ℕ → List (ℕ × ℕ)
with_end [] start index = (start, index) ∷ []
with_end (cell ∷ ahead) start index = if cell.0 == start then cell ∷ ahead else (start, index) ∷ cell ∷ ahead
