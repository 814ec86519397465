-- The targets of a version in their order, with their indexes, and where each index stands.
use Rattle.std.specs.Prelude.{◌≡◌, ℕ, zero, suc, ◌-◌, ◌<◌, ◌≤◌, Bool, true, Option, Some, None, option_map, List, [], ◌∷◌, ◌++◌, length, map, get_or}
use Rattle.std.specs.List.{slice_get}
use Rattle.std.specs.List.Sorted.{IsStrictlySortedBy}
use Rattle.std.specs.Map.{keys_of, values_of}
use Rattle.std.specs.Option.{is_some}
use Rattle.std.specs.declared.cmp.Ordering.{Ordering}
use Rattle.std.specs.declared.result.Result.{Result}
use Rattle.std.specs.declared.result.Result.TheVariants.{Ok, Err}
use Rattle.nhop_index.specs.Indexes.{is_used, by_index}

-- the place of an index
abbrev pub place_at : List (Option ℕ) → ℕ → Option ℕ
place_at places i = get_or places i None

-- an index, if its place has an entry, before the others
abbrev pub list_one : {X : Type 0} → ℕ → Option (X × ℕ) → List (ℕ × X) → List (ℕ × X)
list_one n None rest = rest
list_one n (Some e) rest = (n, e.0) ∷ rest

-- the entry at a place, if there is one
abbrev pub entry_at : {X : Type 0} → List (X × ℕ) → Option ℕ → Option (X × ℕ)
entry_at names None = None
entry_at names (Some p) = slice_get names p

-- the indexes from n on by these places, each with the target at its place
abbrev pub listed : {X : Type 0} → List (X × ℕ) → List (Option ℕ) → ℕ → List (ℕ × X)
listed names [] n = []
listed names (p ∷ ps) n = list_one n (entry_at names p) (listed names ps (suc n))

-- an entry of the map from indexes, as it stands by its target
abbrev pub turned : {X : Type 0} → ℕ × X → Option (X × ℕ)
turned {X} e = (let o : Option (X × ℕ) = Some (e.1, e.0) in o)

-- one more than the greatest of some indexes, 0 where there is none
pub record IsEnd (indexes : List ℕ) (end : ℕ) : Type 0 where
  pub above : (i : ℕ) → is_used indexes i ≡ true → i < end
  pub reached : 1 ≤ end → is_used indexes (end - 1) ≡ true

-- these are the places of all indexes
pub record ArePlaces {X : Type 0} (names : List (X × ℕ)) (places : List (Option ℕ)) : Type 0 where
  pub valid : (i p : ℕ) → place_at places i ≡ Some p → p < length names
  pub own : (i p : ℕ) (e : X × ℕ) → place_at places i ≡ Some p → slice_get names p ≡ Some e → e.1 ≡ i
  pub listed_all : listed names places 0 ≡ by_index names
  pub used : (i : ℕ) → is_some (place_at places i) ≡ is_used (values_of names) i
  pub ends : IsEnd (values_of names) (length places)

-- the places of the targets by their rising indexes
abbrev pub IsOrder : {X : Type 0} → List (X × ℕ) → List ℕ → Type 0
IsOrder {X} names order = map {B = Option (X × ℕ)} (λ p. slice_get names p) order ≡ map {B = Option (X × ℕ)} turned (by_index names)

pub record IsNameTable {X : Type 0} (cmp : X → X → Ordering) (names : List (X × ℕ)) (places : List (Option ℕ)) (order : List ℕ) : Type 0 where
  pub sorted : IsStrictlySortedBy cmp (keys_of names)
  pub few : length names ≤ 4095
  pub placed : ArePlaces names places
  pub ordered : IsOrder names order

-- the places with one more, if there is one
abbrev pub with_place : List ℕ → Option ℕ → List ℕ
with_place order None = order
with_place order (Some p) = order ++ p ∷ []

-- the index at the place that a search found
abbrev pub index_at : {X : Type 0} → List (X × ℕ) → Result ℕ ℕ → Option ℕ
index_at names (Ok p) = option_map (λ e. e.1) (slice_get names p)
index_at names (Err p) = None
