-- Sorted ranges: one cell for each address at which the longest row may change.
use Rattle.std.specs.Prelude.{◌≡◌, ◌≢◌, ℕ, ◌-◌, ◌^◌, ◌<◌, ◌≤◌, List}
use Rattle.std.specs.Map.{keys_of}
use Rattle.prefix_width.specs.Prefix.{Block}
use Rattle.module_trait.specs.Rows.{AreBlocks, HaveIndexes}
use Rattle.module_trait.specs.declared.edit.Verdict.{Verdict}
use Rattle.module_trait.specs.declared.edit.Verdict.TheVariants.{Done, Batch, Rebuild}
use Rattle.module_trait.specs.Starts.{AreRight, starts_of}

-- the cells stand for the rows
pub record IsRangeOf (w : ℕ) (rows : List (Block × ℕ)) (cells : List (ℕ × ℕ)) : Type 0 where
  pub blocks : AreBlocks w rows
  pub indexes : HaveIndexes rows
  pub starts : keys_of cells ≡ starts_of w rows
  pub right : AreRight w rows cells

-- the number n has b binary digits
abbrev pub IsDigits : ℕ → ℕ → Type 0
IsDigits b n = (2 ^ (b - 1) ≤ n) × (n < 2 ^ b)

-- the answer to a change of rows: Done exactly where the starts stay, else Rebuild
abbrev pub IsRangeVerdict : ℕ → List (Block × ℕ) → List (Block × ℕ) → Verdict → Type 0
IsRangeVerdict w before after Done = starts_of w before ≡ starts_of w after
IsRangeVerdict w before after Batch = ⊥
IsRangeVerdict w before after Rebuild = starts_of w before ≢ starts_of w after
