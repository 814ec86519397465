-- What a chunk has, in a table and when it is made.
use Rattle.std.specs.Prelude.{◌≡◌, ℕ, ◌+◌, ◌^◌, ◌<◌, ◌≤◌, List, [], ◌∷◌, Option, Some, None, IsSome, length}
use Rattle.std.specs.Map.{keys_of}
use Rattle.module_trait.specs.Starts.{IsIn}
use Rattle.dxr_chunks.specs.declared.cell.Cell.{Cell}
use Rattle.dxr_chunks.specs.declared.cell.Cell.TheVariants.{Direct, Run}
use Rattle.dxr_chunks.specs.declared.made.Made.{Made}
use Rattle.dxr_chunks.specs.declared.made.Made.TheVariants.{Index, Fragments}
use Rattle.dxr_chunks.specs.Fragments.{AreFragments, IsDirect}

-- a run of two or more fragments is there, which gives the answer at each address of chunk k
abbrev pub IsRun : (ℕ → ℕ) → ℕ → Option (List (ℕ × ℕ)) → Type 0
IsRun answer k None = ⊥
IsRun answer k (Some run) = (2 ≤ length run) × AreFragments answer k run

-- a cell gives the answer at each address of chunk k: by its index, or by the run at its key
abbrev pub IsChunk : (ℕ → ℕ) → ℕ → Option Cell → (ℕ → Option (List (ℕ × ℕ))) → Type 0
IsChunk answer k None runs = ⊥
IsChunk answer k (Some (Direct index)) runs = IsDirect answer k index
IsChunk answer k (Some (Run key)) runs = IsRun answer k (runs key)

-- what is made for chunk k gives the answer at each of its addresses
abbrev pub IsMade : (ℕ → ℕ) → ℕ → Made → Type 0
IsMade answer k (Index index) = IsDirect answer k index
IsMade answer k (Fragments run) = (2 ≤ length run) × AreFragments answer k run

-- what is made for some chunks
abbrev pub AreMade : (ℕ → ℕ) → List (ℕ × Made) → Type 0
AreMade answer [] = Unit {0}
AreMade answer (new ∷ news) = (new.0 < 2 ^ 16) × IsMade answer new.0 new.1 × AreMade answer news

-- those of the first n chunks that aren't among them are without an index
abbrev pub AreRest : (ℕ → ℕ) → ℕ → List (ℕ × Made) → Type 0
AreRest answer n news = (k : ℕ) → k < n → (IsIn k (keys_of news) → ⊥) → IsDirect answer k 0

-- a run has two fragments or more
abbrev pub HasTwo : Made → Type 0
HasTwo (Index index) = Unit {0}
HasTwo (Fragments run) = 2 ≤ length run

-- how many runs are among them
abbrev pub runs_of : Made → ℕ
runs_of (Index index) = 0
runs_of (Fragments run) = 1

abbrev pub runs_in : List (ℕ × Made) → ℕ
runs_in [] = 0
runs_in (new ∷ news) = runs_of new.1 + runs_in news

-- each of the 65,536 chunks has a cell, and each key of a cell has a run of two or more fragments
-- that no other cell has; and each run that is there has such a cell
pub record AreLinked (cells : ℕ → Option Cell) (runs : ℕ → Option (List (ℕ × ℕ))) : Type 0 where
  pub there : (k : ℕ) → k < 2 ^ 16 → IsSome (cells k)
  pub run : (k key : ℕ) → k < 2 ^ 16 → cells k ≡ Some (Run key) → (run : List (ℕ × ℕ)) × (runs key ≡ Some run) × (2 ≤ length run)
  pub apart : (j k key : ℕ) → j < 2 ^ 16 → k < 2 ^ 16 → cells j ≡ Some (Run key) → cells k ≡ Some (Run key) → j ≡ k
  pub named : (key : ℕ) → IsSome (runs key) → (k : ℕ) × (k < 2 ^ 16) × (cells k ≡ Some (Run key))

-- chunk k keeps its cell, and the run at the cell's key
pub record IsKeptAt (k : ℕ) (old_cells new_cells : ℕ → Option Cell) (old_runs new_runs : ℕ → Option (List (ℕ × ℕ))) : Type 0 where
  pub cell : new_cells k ≡ old_cells k
  pub run : (key : ℕ) → old_cells k ≡ Some (Run key) → new_runs key ≡ old_runs key
