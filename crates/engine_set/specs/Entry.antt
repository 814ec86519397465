-- The entries of an image: what each index of a version stands for.
use Rattle.std.specs.Prelude.{◌≡◌, ◌==◌, ℕ, ◌%◌, ◌<◌, List, [], ◌∷◌, length, map, All, Option, Some, None, IsSome, slice_get, option_and_then, if◌then◌else◌}
use Rattle.std.specs.List.Sorted.{IsStrictlyIncreasing}
use Rattle.engine_set.specs.declared.entry.Entry.{Entry}
use Rattle.engine_set.specs.declared.entry.Entry.TheVariants.{Nexthop, Group}
use Rattle.engine_set.specs.declared.entry.Place.{Place}
use Rattle.engine_set.specs.declared.entry.Place.TheVariants as place

-- the index of an entry
abbrev pub entry_index : Entry → ℕ
entry_index (Nexthop index) = index
entry_index (Group index slots) = index

-- the entry of an index, if there is one
abbrev pub entry_at : List Entry → ℕ → Option Entry
entry_at [] i = None
entry_at (e ∷ es) i = if entry_index e == i then Some e else entry_at es i

-- the nexthop's index that an entry gives for a flow: its own, or that in the flow's slot of a group
abbrev pub through : ℕ → Entry → Option ℕ
through flow (Nexthop index) = Some index
through flow (Group index slots) = slice_get slots (flow % length slots)

-- the nexthop's index that the index of a row leads to for a flow
abbrev pub resolved : List Entry → ℕ → Option ℕ → Option ℕ
resolved entries flow index = option_and_then (λ i. option_and_then (through flow) (entry_at entries i)) index

-- each slot of a group is a nexthop's
abbrev pub HasNexthops : List Entry → Entry → Type 0
HasNexthops entries (Nexthop index) = Unit {0}
HasNexthops entries (Group index slots) = All (λ i. entry_at entries i ≡ Some (Nexthop i)) slots

-- how the place k is written for an entry
abbrev pub place_for : Entry → ℕ → Place
place_for (Nexthop index) k = place.Nexthop k
place_for (Group index slots) k = place.Group k

-- the number that a place holds, if it is one
abbrev pub place_number : Place → Option ℕ
place_number place.Vacant = None
place_number (place.Nexthop k) = Some k
place_number (place.Group k) = Some k

-- the place of each entry before the k-th is at its index
abbrev pub ArePlacedTo : List Entry → List Place → ℕ → Type 0
ArePlacedTo entries places k = (j : ℕ) (e : Entry) → j < k → slice_get entries j ≡ Some e → slice_get places (entry_index e) ≡ Some (place_for e j)

-- where the entry of an index stands by the places, if there is one
abbrev pub place_at : List Place → ℕ → Option ℕ
place_at places i = option_and_then place_number (slice_get places i)

-- each index that has a place has an entry
abbrev pub AreOfEntries : List Entry → List Place → Type 0
AreOfEntries entries places = (i k : ℕ) → place_at places i ≡ Some k → IsSome (entry_at entries i)

-- the entries ascend by index, and the places are those of the entries
pub record ArePlaced (entries : List Entry) (places : List Place) : Type 0 where
  pub ascending : IsStrictlyIncreasing (map entry_index entries)
  pub placed : ArePlacedTo entries places (length entries)
  pub only : AreOfEntries entries places
