-- Where a control stands, and what it gives.
use Rattle.std.specs.Prelude.{◌≡◌, ℕ, ◌+◌, ◌≤◌, Bool, true, false, List, length}
use Rattle.std.specs.Arc.{arc_value}
use Rattle.prefix_width.specs.Prefix.{Block}
use Rattle.module_trait.specs.Edit.{IndexChange}
use Rattle.rib_store.specs.declared.command.Reply.{Reply}
use Rattle.rib_store.specs.Plan.{Planned}
use Rattle.rib_store.specs.Table.{Table, table_after}
use Rattle.plan_cut.specs.PlanCourse.{version_before, versions_of}
use Rattle.plan_cut.specs.VersionTable.{table_at}
use Rattle.engine_set.specs.Engine.{KeepsOthers}
use Rattle.engine_set.specs.Image.{Picture}
use Rattle.fib_edits.specs.Edits.{AreEdits}
use Rattle.fib_edits.specs.Named.{indexed, number_in}
use Rattle.fib_sync.specs.declared.control.Advance.{Advance}
use Rattle.fib_sync.specs.declared.control.Advance.TheVariants.{Next, Finished}
use Rattle.fib_sync.specs.Lawful.{IsLawful}
use Rattle.fib_sync.specs.Replies.{replies_to}
use Rattle.fib_sync.specs.VersionNames.{fresh_at, names_at, naming_at}

-- the rows of version v's table, each with the index of its target
abbrev pub rows_at : {w : ℕ} → ℕ → ℕ → Planned w → ℕ → List (Block × ℕ)
rows_at K most plan v = indexed (number_in (naming_at K most plan v)) (table_at most plan v)

-- an image of version v: it is lawful, and has the pairs that the version before hadn't
pub record IsImage {w : ℕ} (K most : ℕ) (plan : Planned w) (v : ℕ) (image : Picture w) : Type 0 where
  pub lawful : IsLawful most plan (names_at K most plan v) v image
  pub fresh : image.fresh ≡ fresh_at K most plan v

-- what a control is seen as: its plan, how many commands it has run, the table and the replies that they left, the last image
-- that it gave, whether the plan's end made the version of that, and whether memory was wanting for an image since then
pub record Controlled (w : ℕ) : Type 0 where
  pub plan : Planned w
  pub commands : ℕ
  pub rib : Table
  pub replies : List Reply
  pub image : Picture w
  pub ended : Bool
  pub interrupted : Bool

-- a control has run the first commands of its plan, among them those of its last image
pub record IsControl {w : ℕ} (K most : ℕ) (c : Controlled w) : Type 0 where
  pub within : c.commands ≤ length c.plan.commands
  pub rib : c.rib ≡ table_after most c.plan c.commands
  pub replies : c.replies ≡ replies_to most c.plan c.commands
  pub image : IsImage K most c.plan c.image.version c.image
  pub counted : c.image.count ≤ c.commands
  pub by_command : c.ended ≡ false → version_before most c.plan c.image.count ≡ c.image.version
  pub by_end : c.ended ≡ true → version_before most c.plan (length c.plan.commands) + 1 ≡ c.image.version

-- the second image came of the first, that of the version before, by one edit for each prefix whose index differs or that
-- only one of the versions has, which leaves all other nodes of a trie and chunks of a table as they were
pub record CameByEdits {w : ℕ} (K most : ℕ) (plan : Planned w) (old new : Picture w) : Type 0 where
  pub edits : List IndexChange
  pub are : AreEdits (rows_at K most plan old.version) (rows_at K most plan new.version) edits
  pub others : KeepsOthers edits old.engine new.engine

-- the control gave the image of the next version, for which it has run the commands
pub record GivesNext {w : ℕ} (K most : ℕ) (old new : Controlled w) (image : Picture w) : Type 0 where
  pub given : new.image ≡ image
  pub next : image.version ≡ old.image.version + 1
  pub counted : new.commands ≡ image.count
  pub whole : new.interrupted ≡ false
  pub came : old.interrupted ≡ false → CameByEdits K most old.plan old.image image

-- the control has given the plan's last version, and has run all commands
pub record HasFinished {w : ℕ} (most : ℕ) (old new : Controlled w) : Type 0 where
  pub last : length (versions_of most old.plan) ≡ old.image.version + 1
  pub all : new.commands ≡ length old.plan.commands
  pub same : new.image ≡ old.image
  pub ended : new.ended ≡ old.ended
  pub interrupted : new.interrupted ≡ old.interrupted

-- what an advance comes to
abbrev pub Advances : {w : ℕ} → ℕ → ℕ → Controlled w → Controlled w → Advance w → Type 0
Advances K most old new (Next image) = GivesNext K most old new (arc_value image)
Advances K most old new Finished = HasFinished most old new
