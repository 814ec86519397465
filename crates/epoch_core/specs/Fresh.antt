-- What versions name, and the pairs whose words the control gives to their numbers before it publishes.
use Rattle.std.specs.Prelude.{◌≡◌, ℕ, ◌+◌, ◌<◌, ◌≤◌, true, false, not, ◌&&◌, List, [], ◌∷◌}
use Rattle.epoch_core.specs.Sound.{IsRecent}
use Rattle.epoch_core.specs.Step.{has_pair, has_index, are_distinct}

-- each version's names are pairs of distinct indexes, 1 to G, with numbers from 1 to the greatest, which is at most 1,048,576;
-- version 0 names nothing
pub record NamesFit (G numbers : ℕ) (names : ℕ → List (ℕ × ℕ)) : Type 0 where
  pub distinct : (v : ℕ) → are_distinct (names v) ≡ true
  pub index_fits : (v i p : ℕ) → has_pair i p (names v) ≡ true → (1 ≤ i) × (i ≤ G)
  pub number_fits : (v i p : ℕ) → has_pair i p (names v) ≡ true → (1 ≤ p) × (p ≤ numbers)
  pub first : names 0 ≡ []
  pub few : numbers ≤ 1048576

-- each index of the list is above i
abbrev pub AreAbove : ℕ → List (ℕ × ℕ) → Type 0
AreAbove i [] = Unit {0}
AreAbove i (c ∷ cs) = (i < c.0) × AreAbove i cs

-- the indexes of the list ascend
abbrev pub Ascends : List (ℕ × ℕ) → Type 0
Ascends [] = Unit {0}
Ascends (c ∷ cs) = AreAbove c.0 cs × Ascends cs

-- the pairs are those that the version after this one names anew, by rising index, and none of the last K - 1 versions names
-- one of their indexes
pub record AreFresh (K : ℕ) (names : ℕ → List (ℕ × ℕ)) (version : ℕ) (fresh : List (ℕ × ℕ)) : Type 0 where
  pub ascending : Ascends fresh
  pub exactly : (i p : ℕ) → has_pair i p fresh ≡ (has_pair i p (names (version + 1)) && not (has_pair i p (names version)))
  pub free : (i u : ℕ) → has_index i fresh ≡ true → IsRecent K version u → has_index i (names u) ≡ false

-- while `version` is published, the words of these pairs may be given to their numbers: their indexes are distinct, and
-- none of the last K - 1 versions names one of them
pub record IsFresh (K G numbers version : ℕ) (names : ℕ → List (ℕ × ℕ)) (fresh : List (ℕ × ℕ)) : Type 0 where
  pub once : are_distinct fresh ≡ true
  pub within : (i p : ℕ) → has_pair i p fresh ≡ true → (0 < i) × (i ≤ G) × (p ≤ numbers)
  pub free : (i u : ℕ) → has_index i fresh ≡ true → IsRecent K version u → has_index i (names u) ≡ false

-- the pairs of the first list before those of the second, the latest first
abbrev pub latest_first : List (ℕ × ℕ) → List (ℕ × ℕ) → List (ℕ × ℕ)
latest_first [] done = done
latest_first (c ∷ cs) done = latest_first cs (c ∷ done)
