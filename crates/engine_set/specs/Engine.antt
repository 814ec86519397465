-- What an engine stands for, and what its lookups and updates come to, by its kind.
use Rattle.std.specs.Prelude.{◌≡◌, ◌≢◌, ℕ, ◌+◌, ◌*◌, List, length, Bool, true, false}
use Rattle.prefix_width.specs.Prefix.{Block}
use Rattle.prefix_width.specs.declared.module.Kind.{Kind}
use Rattle.prefix_width.specs.declared.module.Kind.TheVariants as kind
use Rattle.module_trait.specs.Starts.{starts_of}
use Rattle.range_search.specs.Range.{IsRangeOf, IsDigits}
use Rattle.radix_lockless.specs.Table.{IsRadixOf, nodes_of}
use Rattle.radix_lockless.specs.Trie.{DifferAtMost}
use Rattle.module_trait.specs.Edit.{IndexChange}
use Rattle.dxr_chunks.specs.Table.{IsChunksOf, IsSameAs, KeepsUntouched}
use Rattle.dxr_chunks.specs.Touch.{TouchMoreThan}
use Rattle.engine_set.specs.declared.engine.Engine.{Engine}
use Rattle.engine_set.specs.declared.engine.Engine.TheVariants.{Scan, Range, Radix, Dxr}

-- the module that an engine is
abbrev pub kind_of : {W : _} → Engine W → Kind
kind_of (Scan table) = kind.Scan
kind_of (Range table) = kind.Range
kind_of (Radix table) = kind.Radix
kind_of (Dxr table) = kind.Dxr

-- the engine stands for these rows
abbrev pub Stands : {W : _} → Engine W → List (Block × ℕ) → Type 0
Stands (Scan table) rows = table.rows ≡ rows
Stands {W} (Range table) rows = IsRangeOf W rows table.cells
Stands (Radix table) rows = IsRadixOf rows table
Stands (Dxr table) rows = IsChunksOf rows table

-- this is the most steps that a lookup takes, where an engine of this kind stands for these rows
abbrev pub IsBound : ℕ → Kind → List (Block × ℕ) → ℕ → Type 0
IsBound w kind.Scan rows n = n ≡ length rows
IsBound w kind.Range rows n = IsDigits n (length (starts_of w rows))
IsBound w kind.Radix rows n = n ≡ w + 1
IsBound w kind.Dxr rows n = n ≡ 19

-- whether an engine of this kind takes an update of the first rows to the second by these edits
abbrev pub IsTaken : ℕ → Kind → List IndexChange → List (Block × ℕ) → List (Block × ℕ) → Bool → Type 0
IsTaken w kind.Scan edits before after taken = taken ≡ true
IsTaken w kind.Range edits before after true = starts_of w before ≡ starts_of w after
IsTaken w kind.Range edits before after false = starts_of w before ≢ starts_of w after
IsTaken w kind.Radix edits before after taken = taken ≡ true
IsTaken w kind.Dxr edits before after true = TouchMoreThan 4096 edits → ⊥
IsTaken w kind.Dxr edits before after false = TouchMoreThan 4096 edits

-- what edits leave as it was: where both are tries, all nodes but three an edit; where both are tables of chunks, and the edits
-- touch at most 4,096 of these, each that they don't touch keeps its cell, its key and its fragments
abbrev pub KeepsOthers : {W : _} → List IndexChange → Engine W → Engine W → Type 0
KeepsOthers edits (Radix old) (Radix new) = DifferAtMost (3 * length edits) (nodes_of old) (nodes_of new)
KeepsOthers edits (Dxr old) (Dxr new) = (TouchMoreThan 4096 edits → ⊥) → KeepsUntouched edits old new
KeepsOthers edits old new = Unit {0}

-- where both are tries, the node at each key is the same, and where both are tables of chunks, so is each chunk
abbrev pub SameNodes : {W : _} → Engine W → Engine W → Type 0
SameNodes (Radix old) (Radix new) = (key : ℕ) → nodes_of new key ≡ nodes_of old key
SameNodes (Dxr old) (Dxr new) = IsSameAs old new
SameNodes old new = Unit {0}

-- how many pages of an engine's nodes were written to since it was settled, and how many of a copy's were made for it; a kind
-- without such pages has none
abbrev pub unsettled_of : {W : _} → Engine W → ℕ
unsettled_of (Radix table) = table.unsettled
unsettled_of (Dxr table) = table.unsettled
unsettled_of engine = 0

abbrev pub made_of : {W : _} → Engine W → ℕ
made_of (Radix table) = table.made
made_of (Dxr table) = table.made
made_of engine = 0
