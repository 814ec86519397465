-- Edits of rows, and the rows as they were before.
use Rattle.std.specs.Prelude.{◌≡◌, ◌≢◌, ℕ, ◌≤◌, List, [], ◌∷◌, Option, Some, None, All, AllPairs}
use Rattle.prefix_width.specs.Prefix.{Block}
use Rattle.module_trait.specs.View.{row_at, with_row}

-- what an edit is seen as: the index of the prefix goes from one side to the other, None being no row
pub record IndexChange : Type 0 where
  pub prefix : Block
  pub before : Option ℕ
  pub after : Option ℕ

-- an index that is given is 1 or more
abbrev pub IsIndex : Option ℕ → Type 0
IsIndex None = Unit {0}
IsIndex (Some index) = 1 ≤ index

-- the sides of an edit: they differ, and neither is the index 0
abbrev pub IsEdit : Option ℕ → Option ℕ → Type 0
IsEdit before after = (before ≢ after) × IsIndex before × IsIndex after

-- the rows as they were before the edit
abbrev pub undone : IndexChange → List (Block × ℕ) → List (Block × ℕ)
undone edit rows = with_row rows edit.prefix edit.before

-- the rows as they were before all the edits
abbrev pub undone_all : List IndexChange → List (Block × ℕ) → List (Block × ℕ)
undone_all [] rows = rows
undone_all (edit ∷ edits) rows = undone_all edits (undone edit rows)

-- the edits are of distinct prefixes
abbrev pub AreOfDistinct : List IndexChange → Type 0
AreOfDistinct edits = AllPairs (λ e f. e.prefix ≢ f.prefix) edits

-- the rows have what each edit leaves at its prefix
abbrev pub HaveAfter : List IndexChange → List (Block × ℕ) → Type 0
HaveAfter edits rows = All (λ edit. row_at rows edit.prefix ≡ edit.after) edits
