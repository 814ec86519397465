-- The working engine, and how it goes from one version's rows to the next version's.
use Rattle.std.specs.Prelude.{◌≡◌, ℕ, List}
use Rattle.prefix_width.specs.Prefix.{Block}
use Rattle.prefix_width.specs.declared.module.Kind.{Kind}
use Rattle.prefix_width.specs.declared.module.Kind.TheVariants.{Dxr, Radix}
use Rattle.dxr_chunks.specs.Touch.{TouchMoreThan}
use Rattle.module_trait.specs.Edit.{IndexChange}
use Rattle.rib_store.specs.Table.{Table}
use Rattle.engine_set.specs.declared.engine.Engine.{Engine}
use Rattle.engine_set.specs.Engine.{KeepsOthers, SameNodes, Stands, kind_of}
use Rattle.fib_edits.specs.Edits.{AreEdits}
use Rattle.fib_edits.specs.Named.{AreNamed, Keeps, Naming, indexed}
use Rattle.fib_edits.specs.Touching.{SameBut}
use Rattle.fib_sync.specs.declared.working.Working.{Working}

-- the view has these rows, and the engine is of the kind and stands for them
pub record WorksAt {w : ℕ} (kind : Kind) (rows : List (Block × ℕ)) (work : Working w) : Type 0 where
  pub view : work.view ≡ rows
  pub engine : Stands work.engine rows
  pub same_kind : kind_of work.engine ≡ kind

-- it works for a version, from which the table has gone on by the touched prefixes alone; the new indexes keep the old ones
pub record MayMove {w : ℕ} (old new : Naming) (was is : Table) (touched : List Block) (work : Working w) : Type 0 where
  pub kind : Kind
  pub works : WorksAt kind (indexed old was) work
  pub named : AreNamed old was
  pub same : SameBut touched was is
  pub keeps : Keeps old new

-- the new engine came of the old by the edits of the rows
pub record CameBy {w : ℕ} (was is : List (Block × ℕ)) (old new : Engine w) : Type 0 where
  pub edits : List IndexChange
  pub are : AreEdits was is edits
  pub others : KeepsOthers edits old new

-- an engine of the second kind was built anew: not both kinds are tries, and where both are tables of chunks the edits touch
-- more of these than a table takes
pub record IsAnew (edits : List IndexChange) (old new : Kind) : Type 0 where
  pub tries : old ≡ Radix → new ≡ Radix → ⊥
  pub chunks : old ≡ Dxr → new ≡ Dxr → TouchMoreThan 4096 edits

-- a copy of the engine: it stands for the same rows, is of the same kind, and has the same nodes
pub record IsCopy {w : ℕ} (rows : List (Block × ℕ)) (engine copy : Engine w) : Type 0 where
  pub stands : Stands copy rows
  pub kind : kind_of copy ≡ kind_of engine
  pub same : SameNodes engine copy
