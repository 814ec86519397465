-- The hits that the readers made, as the control finds them when it has taken all seats in.
use Rattle.std.specs.Prelude.{◌≡◌, ℕ, zero, suc, ◌+◌, ◌<◌, ◌/◌, ◌%◌, ◌*◌, ◌≤◌, ◌==◌, if◌then◌else◌, List, [], ◌∷◌, ◌++◌, length, slice_index_or}
use Rattle.epoch_core.specs.declared.view.ControlOwn.{ControlOwn}
use Rattle.epoch_core.specs.Rule.{Ended, booked_of}
use Rattle.epoch_core.specs.Sums.{times}

-- the hits of p that these readers made
abbrev pub hits_of : ℕ → List Ended → ℕ
hits_of p [] = 0
hits_of p (c ∷ cs) = times p c.1.hits + hits_of p cs

-- what an index word that holds n counts of p
abbrev pub counts_of : ℕ → ℕ → ℕ
counts_of p n = if n / 4294967296 == p then n % 4294967296 else 0

-- what these words, each an index and what its word held, count of p
abbrev pub tallied_of : ℕ → List (ℕ × ℕ) → ℕ
tallied_of p [] = 0
tallied_of p (c ∷ cs) = counts_of p c.1 + tallied_of p cs

-- the numbers below n, the greatest first
abbrev pub from_greatest : ℕ → List ℕ
from_greatest zero = []
from_greatest (suc n) = n ∷ from_greatest n

-- each number below n whose count is 1 or more, with its count, by rising number
abbrev pub rising_counts : (ℕ → ℕ) → ℕ → List (ℕ × ℕ)
rising_counts count zero = []
rising_counts count (suc p) = rising_counts count p ++ (if count p == 0 then [] else (p, count p) ∷ [])

-- the list has for each number up to the greatest what is booked and tallied of it, and no word that is tallied counts above
-- 2 ^ 30
pub record IsCounted (d : ControlOwn) (counts : List ℕ) : Type 0 where
  pub long : length counts ≡ d.numbers + 1
  pub each : (p : ℕ) → p ≤ d.numbers → slice_index_or counts p 0 ≡ booked_of p d.booked + tallied_of p d.tallied
  pub above : (p : ℕ) → d.numbers < p → booked_of p d.booked + tallied_of p d.tallied ≡ 0
  pub small : (p : ℕ) → tallied_of p d.tallied ≤ length d.tallied * 1073741824
