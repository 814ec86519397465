-- The rows of a table as an ordered map from prefix to index.
use Rattle.std.specs.Prelude.{◌≡◌, ℕ, ◌<◌, ◌≤◌, List, Option, Some, None, IsSome, IsTrue}
use Rattle.std.specs.Map.{lookup, remove_entry}
use Rattle.std.specs.BTreeMap.{insert_entry, is_at}
use Rattle.prefix_width.specs.Prefix.{Block, covers}
use Rattle.prefix_width.specs.Order.{block_cmp}

-- the index of a prefix
abbrev pub row_at : List (Block × ℕ) → Block → Option ℕ
row_at rows p = lookup (is_at (block_cmp p)) rows

-- the rows with this index at the prefix, or with no row there
abbrev pub with_row : List (Block × ℕ) → Block → Option ℕ → List (Block × ℕ)
with_row rows p None = remove_entry (is_at (block_cmp p)) rows
with_row rows p (Some index) = insert_entry block_cmp rows p index

-- q has a row, is shorter than p and covers it
pub record IsShorterCover (w : ℕ) (rows : List (Block × ℕ)) (p q : Block) : Type 0 where
  pub there : IsSome (row_at rows q)
  pub shorter : q.len < p.len
  pub covering : IsTrue (covers w q p)

-- the row is a shorter cover of p, and none is longer
pub record IsCover (w : ℕ) (rows : List (Block × ℕ)) (p : Block) (row : Block × ℕ) : Type 0 where
  pub there : row_at rows row.0 ≡ Some row.1
  pub shorter : row.0.len < p.len
  pub covering : IsTrue (covers w row.0 p)
  pub longest : (q : Block) → IsShorterCover w rows p q → q.len ≤ row.0.len

-- p has no shorter cover
abbrev pub NoneCovers : ℕ → List (Block × ℕ) → Block → Type 0
NoneCovers w rows p = (q : Block) → IsShorterCover w rows p q → ⊥
