-- What is kept of older versions: for each index, how many versions ago it was last in use.
use Rattle.std.specs.Prelude.{◌≡◌, ℕ, ◌+◌, ◌-◌, ◌<◌, ◌≤◌, min, nat_lt, Bool, true, List, get_or, if◌then◌else◌}
use Rattle.std.specs.Map.{values_of}
use Rattle.nhop_index.specs.Indexes.{is_used, newest, recent}

-- how many versions newer than the last one with an index there are: 0 where the newest has it, 255 for long ago or never
abbrev pub age_of : List ℕ → ℕ → ℕ
age_of ages i = get_or ages i 255

-- an age after one version more
abbrev pub aged : Bool → ℕ → ℕ
aged used age = if used then 0 else min (age + 1) 255

-- the ages after one version more, which has these indexes
abbrev pub AreAged : {X : Type 0} → List (X × ℕ) → List ℕ → List ℕ → Type 0
AreAged names old new = (i : ℕ) → age_of new i ≡ aged (is_used (values_of names) i) (age_of old i)

-- the ages of the indexes of these versions, the newest first
abbrev pub AreAgesOf : {X : Type 0} → ℕ → List (List (X × ℕ)) → List ℕ → Type 0
AreAgesOf K versions ages = (i d : ℕ) → d < K → is_used (recent d versions) i ≡ nat_lt (age_of ages i) d

-- a walk up the unused indexes: all below `next` are used, and those from `next` on are where they are young
pub record Walks (K : ℕ) (used ages : List ℕ) (next : ℕ) : Type 0 where
  pub positive : 1 ≤ next
  pub below : (j : ℕ) → 1 ≤ j → j < next → is_used used j ≡ true
  pub above : (j : ℕ) → next ≤ j → is_used used j ≡ nat_lt (age_of ages j) (K - 1)
