-- A batch of edits that leave one index, or no row, at each of their prefixes.
use Rattle.std.specs.Prelude.{◌≡◌, ℕ, List, Option, All}
use Rattle.prefix_width.specs.Prefix.{Block}
use Rattle.module_trait.specs.Edit.{IndexChange, AreOfDistinct, HaveAfter, undone_all}

-- the edits are of distinct prefixes and all leave this index, which the new rows have there; undone, they give the old rows
pub record IsBatch (index : Option ℕ) (old new : List (Block × ℕ)) (edits : List IndexChange) : Type 0 where
  pub distinct : AreOfDistinct edits
  pub same : All (λ edit. edit.after ≡ index) edits
  pub after : HaveAfter edits new
  pub before : undone_all edits new ≡ old
