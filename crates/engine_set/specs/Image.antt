-- What an image is seen as, and what each is known to be.
use Rattle.std.specs.Prelude.{◌≡◌, ℕ, List, length, All, IsSome}
use Rattle.std.specs.Map.{values_of}
use Rattle.prefix_width.specs.Prefix.{Block}
use Rattle.engine_set.specs.declared.engine.Engine.{Engine}
use Rattle.engine_set.specs.declared.entry.Entry.{Entry}
use Rattle.engine_set.specs.Engine.{Stands}
use Rattle.engine_set.specs.Entry.{entry_at, HasNexthops}

-- what an image is seen as
pub record Picture (W : ℕ) : Type 0 where
  pub version : ℕ
  pub count : ℕ
  pub routes : ℕ
  pub engine : Engine W
  pub entries : List Entry
  pub fresh : List (ℕ × ℕ)

-- an engine stands for so many rows, and each index of theirs has an entry
pub record HasEntries {W : ℕ} (engine : Engine W) (routes : ℕ) (entries : List Entry) : Type 0 where
  pub rows : List (Block × ℕ)
  pub stands : Stands engine rows
  pub many : length rows ≡ routes
  pub named : All (λ i. IsSome (entry_at entries i)) (values_of rows)

-- the entries are there for the engine's rows, and those of groups lead to nexthops
pub record IsPicture {W : ℕ} (engine : Engine W) (routes : ℕ) (entries : List Entry) : Type 0 where
  pub there : HasEntries engine routes entries
  pub slots : All (HasNexthops entries) entries
