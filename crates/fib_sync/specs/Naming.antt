-- The indexes that are kept at a version of a plan: those of the version, and those of the next once the book has given them.
use Rattle.std.specs.Prelude.{◌≡◌, ℕ, ◌+◌, Option, Some, None}
use Rattle.nhgrp_slots.specs.Target.{target_cmp}
use Rattle.nhop_index.specs.Book.{Memory, Naming, Remembers}
use Rattle.nhop_index.specs.Indexes.{all_names}
use Rattle.rib_store.specs.Plan.{Planned}
use Rattle.fib_sync.specs.declared.numbering.Numbering.{Numbering}
use Rattle.fib_sync.specs.VersionNames.{lives_to, naming_at}

-- the book has given the versions up to one
abbrev pub HasGiven : {w : ℕ} → ℕ → ℕ → Planned w → ℕ → Memory w → Type 0
HasGiven K most plan v book = Remembers K (all_names target_cmp K (lives_to most plan v)) book

-- the indexes of the next version, where there are some
abbrev pub IsNext : {w : ℕ} → ℕ → ℕ → Planned w → ℕ → Memory w → Option (Naming w) → Type 0
IsNext K most plan v book None = HasGiven K most plan v book
IsNext K most plan v book (Some next) = (next.names ≡ naming_at K most plan (v + 1)) × HasGiven K most plan (v + 1) book

-- what is kept at a version
pub record AreNamesAt {w K most : ℕ} (plan : Planned w) (v : ℕ) (names : Numbering w K most) : Type 0 where
  pub now : names.now.names ≡ naming_at K most plan v
  pub next : IsNext K most plan v names.book names.next
