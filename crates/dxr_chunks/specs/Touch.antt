-- The chunks that edits touch: those with an address of a prefix whose index changes.
use Rattle.std.specs.Prelude.{◌≡◌, ◌⊎◌, ℕ, ◌/◌, ◌^◌, ◌<◌, ◌≤◌, List, [], ◌∷◌, length}
use Rattle.std.specs.List.{AllByRecursion}
use Rattle.prefix_width.specs.Prefix.{Block, last_of}
use Rattle.module_trait.specs.Edit.{IndexChange}
use Rattle.module_trait.specs.Starts.{IsIn, IsUp}
use Rattle.module_trait.specs.declared.edit.Verdict.{Verdict}
use Rattle.module_trait.specs.declared.edit.Verdict.TheVariants.{Done, Rebuild}

-- an address of the prefix is in chunk k
abbrev pub Touches : Block → ℕ → Type 0
Touches p k = (p.base / 2 ^ 16 ≤ k) × (k ≤ last_of 32 p / 2 ^ 16)

-- one of the edits is of a prefix that touches chunk k
abbrev pub IsTouched : List IndexChange → ℕ → Type 0
IsTouched [] k = ⊥
IsTouched (e ∷ edits) k = Touches e.prefix k ⊎ IsTouched edits k

-- there are more than n chunks that the edits touch
abbrev pub TouchMoreThan : ℕ → List IndexChange → Type 0
TouchMoreThan n edits = (chunks : List ℕ) × IsUp chunks × AllByRecursion (IsTouched edits) chunks × (n < length chunks)

-- a table is to be built anew exactly where more than 4,096 chunks are touched, and else the batch is done
abbrev pub IsBatchVerdict : List IndexChange → Verdict → Type 0
IsBatchVerdict edits verdict = (verdict ≡ Rebuild → TouchMoreThan 4096 edits) × (verdict ≡ Done → TouchMoreThan 4096 edits → ⊥)

-- chunks that the edits touch, ascending: all of them, or more than n
pub record AreTouched (n : ℕ) (edits : List IndexChange) (chunks : List ℕ) : Type 0 where
  pub up : IsUp chunks
  pub sound : AllByRecursion (IsTouched edits) chunks
  pub complete : length chunks ≤ n → (k : ℕ) → IsTouched edits k → IsIn k chunks

-- the chunks of one prefix more are added, all of them or until there are more than n
pub record AddsTouched (n : ℕ) (p : Block) (old new : List ℕ) : Type 0 where
  pub up : IsUp old → IsUp new
  pub kept : (k : ℕ) → IsIn k old → IsIn k new
  pub sound : (k : ℕ) → IsIn k new → IsIn k old ⊎ Touches p k
  pub complete : length new ≤ n → (k : ℕ) → Touches p k → IsIn k new
  pub more : length old ≤ length new
