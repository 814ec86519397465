-- The pairs of a version's nexthops, each of an index and the nexthop's number in the plan.
use Rattle.std.specs.Prelude.{ℕ, not, Bool, false, List, filter, Option, Some, None, if◌then◌else◌}
use Rattle.std.specs.List.{filter_map}
use Rattle.std.specs.Ordering.{is_eq}
use Rattle.prefix_width.specs.Nexthop.{Hop}
use Rattle.prefix_width.specs.Order.{hop_cmp}
use Rattle.nhgrp_slots.specs.declared.target.Target.{Target}
use Rattle.nhgrp_slots.specs.declared.target.Target.TheVariants.{One, Many}
use Rattle.nhop_index.specs.Indexes.{by_index}
use Rattle.rib_store.specs.Plan.{Planned}
use Rattle.fib_sync.specs.VersionNames.{is_pair_in, pair_of}

-- the pairs of some indexes, by rising index
abbrev pub pairs_in : {w : _} → Planned w → List (Target w × ℕ) → List (ℕ × ℕ)
pairs_in plan names = filter_map (pair_of plan) (by_index names)

-- those that other indexes haven't
abbrev pub new_pairs : {w : _} → Planned w → List (Target w × ℕ) → List (Target w × ℕ) → List (ℕ × ℕ)
new_pairs plan before names = filter (λ c. not (is_pair_in c (pairs_in plan before))) (pairs_in plan names)

-- a pair, if there is one and it isn't among these
abbrev pub if_new : List (ℕ × ℕ) → Option (ℕ × ℕ) → Option (ℕ × ℕ)
if_new pairs None = None
if_new pairs (Some c) = if is_pair_in c pairs then None else Some c

-- the pair of an index with its target, where other indexes haven't it
abbrev pub new_pair : {w : _} → Planned w → List (Target w × ℕ) → ℕ × Target w → Option (ℕ × ℕ)
new_pair plan before e = if_new (pairs_in plan before) (pair_of plan e)

-- whether what has an index, if something has, is this nexthop
abbrev pub is_one : {w : _} → Option (Target w) → Hop → Bool
is_one None h = false
is_one (Some (One k)) h = is_eq (hop_cmp k h)
is_one (Some (Many paths)) h = false
