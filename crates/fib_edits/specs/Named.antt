-- The rows of a table with the indexes of what they lead to.
use Rattle.std.specs.Prelude.{◌≡◌, ℕ, ◌≤◌, List, map, All, Option, option_map, unwrap_or}
use Rattle.std.specs.Map.{values_of}
use Rattle.prefix_width.specs.Prefix.{Block}
use Rattle.nhgrp_slots.specs.Spread.{Spread}
use Rattle.nhgrp_slots.specs.Target.{target_cmp, target_of}
use Rattle.nhgrp_slots.specs.declared.target.Target.{Target}
use Rattle.nhop_index.specs.Indexes.{index_in}
use Rattle.rib_store.specs.Table.{Table, paths_at}

-- the index of what the paths lead to, 0 where it has none
abbrev pub number_in : {w : _} → List (Target w × ℕ) → Spread → ℕ
number_in {w} names paths = unwrap_or (index_in (target_cmp {w = w}) names (target_of paths)) 0

-- the index of what some paths lead to, 0 where there is none
abbrev pub Naming : Type 0
Naming = Spread → ℕ

-- the index that a naming gives
abbrev pub numbered : Naming → Spread → ℕ
numbered n paths = n paths

-- the rows with their indexes
abbrev pub indexed : Naming → Table → List (Block × ℕ)
indexed n rows = map {B = Block × ℕ} (λ row. (row.0, numbered n row.1)) rows

-- the index of a prefix
abbrev pub index_at : Naming → Table → Block → Option ℕ
index_at n rows p = option_map (numbered n) (paths_at rows p)

-- each row has an index of 1 or more
abbrev pub AreNamed : Naming → Table → Type 0
AreNamed n rows = All (λ paths. 1 ≤ numbered n paths) (values_of rows)

-- what has an index in both keeps it
abbrev pub Keeps : Naming → Naming → Type 0
Keeps old new = (paths : Spread) → 1 ≤ numbered old paths → 1 ≤ numbered new paths → numbered new paths ≡ numbered old paths
