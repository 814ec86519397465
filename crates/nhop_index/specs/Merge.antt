-- One walk over the live targets and those of the version before.
use Rattle.std.specs.Prelude.{◌≡◌, ℕ, ◌<◌, true, List, Some}
use Rattle.std.specs.List.{slice_get}
use Rattle.std.specs.Map.{values_of}
use Rattle.std.specs.declared.cmp.Ordering.{Ordering}
use Rattle.std.specs.declared.cmp.Ordering.TheVariants.{Greater}
use Rattle.nhop_index.specs.Indexes.{is_used}

-- the entries before a place are of lesser targets
abbrev pub ArePast : {X : Type 0} → (X → X → Ordering) → List (X × ℕ) → ℕ → X → Type 0
ArePast {X} cmp names place t = (j : ℕ) (e : X × ℕ) → j < place → slice_get names j ≡ Some e → cmp t e.0 ≡ Greater

-- each index of a version is among those used
abbrev pub Covers : {X : Type 0} → List ℕ → List (X × ℕ) → Type 0
Covers used names = (i : ℕ) → is_used (values_of names) i ≡ true → is_used used i ≡ true
