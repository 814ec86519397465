-- The indexes of a version's targets: a target of the version before keeps its index, and each other takes the least
-- that neither this version nor one of the K - 1 before has. Said of elements of any type and order.
use Rattle.std.specs.Prelude.{ℕ, zero, suc, ◌-◌, Bool, not, ◌==◌, if◌then◌else◌, Option, Some, None, List, [], ◌∷◌, length, take}
use Rattle.std.specs.List.{list_any, flat_map, filter}
use Rattle.std.specs.Map.{lookup, values_of}
use Rattle.std.specs.BTreeMap.{insert_entry, is_at}
use Rattle.std.specs.Ordering.{nat_cmp}
use Rattle.std.specs.declared.cmp.Ordering.{Ordering}

abbrev pub is_used : List ℕ → ℕ → Bool
is_used used i = list_any (λ j. j == i) used

-- the first number from n on that passes, or where none of the next `room` does, the one after them
unfoldable pub first_from : (ℕ → Bool) → ℕ → ℕ → ℕ
first_from p zero n = n
first_from p (suc room) n = if p n then n else first_from p room (suc n)

-- the least unused index. Of the indexes 1 to the number of those used and one more, one is unused
abbrev pub least_unused : List ℕ → ℕ
least_unused used = first_from (λ i. not (is_used used i)) (length used) 1

-- a target with its index, before those of the targets after it
abbrev pub name_and : {X : Type 0} → X → Option ℕ → List ℕ → (List ℕ → List (X × ℕ)) → List (X × ℕ)
name_and t (Some i) used rest = (t, i) ∷ rest used
name_and t None used rest = (t, least_unused used) ∷ rest (least_unused used ∷ used)

module _ {X : Type 0} (cmp : X → X → Ordering) where
  -- the index of a target
  abbrev pub index_in : List (X × ℕ) → X → Option ℕ
  index_in names t = lookup (is_at (cmp t)) names

  -- each target with its index, that of before or else the least that is unused
  abbrev pub named : List (X × ℕ) → List X → List ℕ → List (X × ℕ)
  named before [] used = []
  named before (t ∷ ts) used = name_and t (index_in before t) used (named before ts)

-- the finite map from index to target
abbrev pub by_index : {X : Type 0} → List (X × ℕ) → List (ℕ × X)
by_index [] = []
by_index (e ∷ es) = insert_entry nat_cmp (by_index es) e.1 e.0

-- the target of an index
abbrev pub target_at : {X : Type 0} → List (X × ℕ) → ℕ → Option X
target_at names i = lookup (is_at (nat_cmp i)) (by_index names)

-- the indexes that a version has and the one before hadn't
abbrev pub fresh_in : {X : Type 0} → List (X × ℕ) → List (X × ℕ) → List ℕ
fresh_in before names = filter (λ i. not (is_used (values_of before) i)) (values_of names)

-- the newest of some versions, nothing where there is none
abbrev pub newest : {X : Type 0} → List (List X) → List X
newest [] = []
newest (names ∷ older) = names

-- the indexes of the newest versions, so many of them
abbrev pub recent : {X : Type 0} → ℕ → List (List (X × ℕ)) → List ℕ
recent d versions = flat_map (λ names. values_of names) (take d versions)

-- the indexes of the newest K - 1 versions
abbrev pub window : {X : Type 0} → ℕ → List (List (X × ℕ)) → List ℕ
window K versions = recent (K - 1) versions

module _ {X : Type 0} (cmp : X → X → Ordering) where
  -- the indexes of the next version, after these, the newest first
  abbrev pub next_names : ℕ → List (List (X × ℕ)) → List X → List (X × ℕ)
  next_names K versions live = named cmp (newest versions) live (window K versions)

  -- the indexes of the versions with these live targets, both the newest first
  abbrev pub all_names : ℕ → List (List X) → List (List (X × ℕ))
  all_names K [] = []
  all_names K (live ∷ older) = next_names K (all_names K older) live ∷ all_names K older
