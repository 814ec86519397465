-- The indexes of a plan's versions, where there are K banks and a table has room for so many live targets.
use Rattle.std.specs.Prelude.{ℕ, zero, suc, ◌==◌, ◌&&◌, Bool, not, List, [], ◌∷◌, filter, Option, None, option_map}
use Rattle.std.specs.List.{filter_map, list_any}
use Rattle.nhgrp_slots.specs.Target.{target_cmp}
use Rattle.nhgrp_slots.specs.declared.target.Target.{Target}
use Rattle.nhgrp_slots.specs.declared.target.Target.TheVariants.{One, Many}
use Rattle.nhop_index.specs.Indexes.{all_names, by_index, newest, target_at}
use Rattle.rib_store.specs.Plan.{Planned, number_of}
use Rattle.rib_store.specs.Targets.{live}
use Rattle.plan_cut.specs.VersionTable.{table_at}
use Rattle.fib_sync.specs.Lawful.{Names}

-- the live targets of version v and of those before it, the newest first
unfoldable pub lives_to : {w : ℕ} → ℕ → Planned w → ℕ → List (List (Target w))
lives_to {w} most plan zero = live {w = w} (table_at most plan 0) ∷ []
lives_to {w} most plan (suc v) = live {w = w} (table_at most plan (suc v)) ∷ lives_to most plan v

-- index: the live targets of version v, each with its index
abbrev pub naming_at : {w : ℕ} → ℕ → ℕ → Planned w → ℕ → List (Target w × ℕ)
naming_at K most plan v = newest (all_names target_cmp K (lives_to most plan v))

-- the target of each index of version v
abbrev pub names_at : {w : ℕ} → ℕ → ℕ → Planned w → ℕ → Names w
names_at K most plan v i = target_at (naming_at K most plan v) i

-- an index with the number that its nexthop has in the plan; a group has none
abbrev pub pair_of : {w : ℕ} → Planned w → ℕ × Target w → Option (ℕ × ℕ)
pair_of plan (i, One h) = option_map (λ p. (i, p)) (number_of plan h)
pair_of plan (i, Many paths) = None

-- the indexes of version v's nexthops by rising index, each with the number that its nexthop has in the plan
abbrev pub pairs_at : {w : ℕ} → ℕ → ℕ → Planned w → ℕ → List (ℕ × ℕ)
pairs_at K most plan v = filter_map (pair_of plan) (by_index (naming_at K most plan v))

-- whether a pair is among these
abbrev pub is_pair_in : ℕ × ℕ → List (ℕ × ℕ) → Bool
is_pair_in c pairs = list_any (λ d. (d.0 == c.0) && (d.1 == c.1)) pairs

-- the pairs of version v that the version before hadn't, by rising index
abbrev pub fresh_at : {w : ℕ} → ℕ → ℕ → Planned w → ℕ → List (ℕ × ℕ)
fresh_at K most plan zero = pairs_at K most plan 0
fresh_at K most plan (suc v) = filter (λ c. not (is_pair_in c (pairs_at K most plan v))) (pairs_at K most plan (suc v))
