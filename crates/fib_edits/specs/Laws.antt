-- Laws of indexes: what the edits of a version rest on.
use Rattle.std.specs.Prelude.{◌≡◌, ℕ, ◌≤◌, List, All}
use Rattle.std.specs.Map.{values_of}
use Rattle.nhgrp_slots.specs.PathList.{IsPathList}
use Rattle.nhgrp_slots.specs.Spread.{Spread}
use Rattle.nhgrp_slots.specs.Target.{target_cmp}
use Rattle.nhgrp_slots.specs.declared.target.Target.{Target}
use Rattle.nhop_index.specs.Indexes.{named}
use Rattle.rib_store.specs.Table.{Table}
use Rattle.rib_store.specs.Targets.{live}
use Rattle.fib_edits.specs.Named.{number_in}

-- what has an index in a version and in the next has the same
abbrev pub IndexesAreKept : ℕ → Type 0
IndexesAreKept w =
    (before : List (Target w × ℕ)) (targets : List (Target w)) (used : List ℕ) (paths : Spread)
    → 1 ≤ number_in before paths → 1 ≤ number_in (named target_cmp before targets used) paths
    → number_in (named target_cmp before targets used) paths ≡ number_in before paths

-- each row has an index of 1 or more, where those of the version before are
abbrev pub RowsAreNamed : ℕ → Type 0
RowsAreNamed w =
    (before : List (Target w × ℕ)) (rows : Table) (used : List ℕ)
    → All (λ e. 1 ≤ e.1) before → All (λ s. IsPathList s.paths) (values_of rows)
    → All (λ paths. 1 ≤ number_in (named target_cmp before (live {w = w} rows) used) paths) (values_of rows)
