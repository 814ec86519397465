-- What versions name fits the table, and what they name anew is fresh.
use Rattle.std.proofs.Common.{◌≡◌, ℕ, ◌+◌, ◌%◌, ◌<◌, ◌≤◌, true, false, true≢false, [], ◌∷◌, refl, sym, arith}
use Rattle.std.proofs.lemmas.Bool.Decides.{nat_tests}
use Rattle.std.proofs.Math.Nat.{mod-lt}
use Rattle.prefix_width.specs.Limits.{last_index}
use Rattle.epoch_core.specs.Fresh.{NamesFit, AreFresh}
use Rattle.epoch_core.specs.Step.{has_index}
use Rattle.epoch_core.specs.Turns.{is_turn, turn, turns}
use Rattle.epoch_core.proofs.TurnLemmas.{turn_fits, turn_fresh, in_turn, turn_named}
use Rattle.epoch_bench.specs.Names.{no_names}

pub none_fit : NamesFit (last_index 8 4095) 0 no_names
none_fit = record {
  distinct = λ v. refl;
  index_fits = λ v i p has. absurd (true≢false (sym has));
  number_fits = λ v i p has. absurd (true≢false (sym has));
  first = refl;
  few = omega arith;
}

pub none_fresh : (v : ℕ) → AreFresh 8 no_names v []
none_fresh v = record {
  ascending = tt;
  exactly = λ i p. refl;
  free = λ i u has near. absurd (true≢false (sym has));
}

-- each version from 1 on names an index where all indexes have their turn
always : (v : ℕ) → 0 < v → is_turn 8 8 v ≡ true
always v later = let low : v % 8 < 8 = mod-lt v (omega arith) in grind (arith, nat_tests)

pub turn_is_named : (v : ℕ) → 0 < v → has_index (1 + v % 8) (turns 8 8 v) ≡ true
turn_is_named v later = turn_named 8 8 v (always v later)

pub turns_fit : (live : ℕ) → 1 ≤ live → NamesFit (last_index 8 live) 3 (turns 8 8)
turns_fit live some = turn_fits 8 8 (last_index 8 live) (omega arith)

pub turn_is_one : (v : ℕ) → 0 < v → turns 8 8 v ≡ turn 8 v ∷ []
turn_is_one v later = in_turn 8 8 v (always v later)

pub turn_is_fresh : (v : ℕ) → AreFresh 8 (turns 8 8) v (turns 8 8 (v + 1))
turn_is_fresh v = turn_fresh 8 8 (omega arith) v
