-- Rows of a table: prefixes with their indexes.
use Rattle.std.specs.Prelude.{ℕ, ◌≤◌, List, Option, All, option_map}
use Rattle.std.specs.List.Sorted.{IsStrictlySortedBy}
use Rattle.std.specs.Map.{keys_of, values_of}
use Rattle.prefix_width.specs.Prefix.{Block, IsBlock}
use Rattle.prefix_width.specs.Order.{block_cmp}

-- the index of a row, if there is a row
abbrev pub index_of : Option (Block × ℕ) → Option ℕ
index_of row = option_map (λ r. r.1) row

-- the prefixes ascend, by address and then by length, and so are distinct
abbrev pub IsAscending : List (Block × ℕ) → Type 0
IsAscending rows = IsStrictlySortedBy block_cmp (keys_of rows)

-- each index is 1 or more
abbrev pub HaveIndexes : List (Block × ℕ) → Type 0
HaveIndexes rows = All (λ index. 1 ≤ index) (values_of rows)

-- each prefix is one of w bits
abbrev pub AreBlocks : ℕ → List (Block × ℕ) → Type 0
AreBlocks w rows = All (IsBlock w) (keys_of rows)

-- rows that a module may stand for
pub record AreRows (rows : List (Block × ℕ)) : Type 0 where
  pub ascending : IsAscending rows
  pub indexes : HaveIndexes rows
