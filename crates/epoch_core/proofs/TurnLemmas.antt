-- What the names of the tables that tests and benchmarks run meet.
use Rattle.std.proofs.Common.{◌≡◌, ◌≢◌, ℕ, ◌+◌, ◌%◌, ◌<◌, ◌≤◌, Bool, true, false, true≢false, not, ◌&&◌, ◌||◌, eqb, nat_lt, if◌then◌else◌, List, [], ◌∷◌, refl, sym, ◌∙◌, arith, eq-eqb}
use Rattle.std.proofs.lemmas.Bool.Decides.{nat_tests}
use Rattle.std.proofs.Math.Nat.{mod-lt}
use Rattle.epoch_core.specs.Fresh.{NamesFit, Ascends, AreFresh}
use Rattle.epoch_core.specs.Step.{has_pair, has_index, are_distinct}
use Rattle.epoch_core.specs.Turns.{is_turn, turn, turns}
use Rattle.epoch_core.proofs.BankLemmas.{banks_apart}
use Rattle.epoch_core.proofs.WordLemmas.{pair_index}

-- an index that a list of one pair or none has, and a number
one_index : (t : Bool) (i : ℕ) (c : ℕ × ℕ) → has_index i (if t then c ∷ [] else []) ≡ true → (t ≡ true) × (c.0 ≡ i)
one_index false i c has = absurd (true≢false (sym has))
one_index true i c has = go (eqb c.0 i) refl has
  where
    go : (a : Bool) → eqb c.0 i ≡ a → (a || false) ≡ true → (true ≡ true) × (c.0 ≡ i)
    go true e h = (refl, grind (arith, nat_tests))
    go false e h = absurd (true≢false (sym h))

one_number : (t : Bool) (i p : ℕ) (c : ℕ × ℕ) → has_pair i p (if t then c ∷ [] else []) ≡ true → c.1 ≡ p
one_number false i p c has = absurd (true≢false (sym has))
one_number true i p c has = go (eqb c.0 i) (eqb c.1 p) refl has
  where
    go : (a b : Bool) → eqb c.1 p ≡ b → ((a && b) || false) ≡ true → c.1 ≡ p
    go a true f h = grind (arith, nat_tests)
    go true false f h = absurd (true≢false (sym h))
    go false false f h = absurd (true≢false (sym h))

one_distinct : (t : Bool) (c : ℕ × ℕ) → are_distinct (if t then c ∷ [] else []) ≡ true
one_distinct true c = refl
one_distinct false c = refl

one_ascends : (t : Bool) (c : ℕ × ℕ) → Ascends (if t then c ∷ [] else [])
one_ascends true c = (tt, tt)
one_ascends false c = tt

turn_low : (v m n : ℕ) → (nat_lt 0 v && nat_lt m n) ≡ true → (0 < v) × (m < n)
turn_low v m n e = (grind (arith, nat_tests), grind (arith, nat_tests))

-- the index that a version names
index_of : (K n v i : ℕ) → has_index i (turns K n v) ≡ true → (0 < v) × (v % K < n) × (1 + v % K ≡ i)
index_of K n v i has =
    let k = one_index (is_turn K n v) i (turn K v) has in
    let low = turn_low v (v % K) n k.0 in (low.0, low.1, k.1)

pub turn_fits : (K n G : ℕ) → n ≤ G → NamesFit G 3 (turns K n)
turn_fits K n G wide = record {
  distinct = λ v. one_distinct (is_turn K n v) (turn K v);
  index_fits = λ v i p has. let k = index_of K n v i (pair_index i p (turns K n v) has) in (omega arith, omega arith);
  number_fits = λ v i p has.
      let e = one_number (is_turn K n v) i p (turn K v) has in
      let l : v % 3 < 3 = mod-lt v (omega arith) in (omega arith, omega arith);
  first = refl;
  few = omega arith;
}

-- the index of the next version is named by none of the last K - 1
unnamed : (K n v u i : ℕ) → u ≤ v → v + 1 < u + K → i ≡ 1 + (v + 1) % K → has_index i (turns K n u) ≡ false
unnamed K n v u i l near e = go (has_index i (turns K n u)) refl
  where
    go : (t : Bool) → has_index i (turns K n u) ≡ t → t ≡ false
    go false f = refl
    go true f = let k = index_of K n u i f in absurd (banks_apart K u (v + 1) (omega arith) near (omega arith))

no_pair : (i p : ℕ) (cs : List (ℕ × ℕ)) → has_index i cs ≡ false → has_pair i p cs ≡ false
no_pair i p cs none = go (has_pair i p cs) refl
  where
    go : (t : Bool) → has_pair i p cs ≡ t → t ≡ false
    go true e = absurd (true≢false (sym (pair_index i p cs e) ∙ none))
    go false e = refl

pub turn_fresh : (K n : ℕ) → 2 ≤ K → (v : ℕ) → AreFresh K (turns K n) v (turns K n (v + 1))
turn_fresh K n two v = record {
  ascending = one_ascends (is_turn K n (v + 1)) (turn K (v + 1));
  exactly = λ i p. exact i p (has_pair i p (turns K n (v + 1))) refl;
  free = λ i u has near. unnamed K n v u i near.0 near.1 (sym (index_of K n (v + 1) i has).2);
}
  where
    exact : (i p : ℕ) (t : Bool) → has_pair i p (turns K n (v + 1)) ≡ t → has_pair i p (turns K n (v + 1)) ≡ (has_pair i p (turns K n (v + 1)) && not (has_pair i p (turns K n v)))
    exact i p true e =
        let index = index_of K n (v + 1) i (pair_index i p (turns K n (v + 1)) e) in
        let old : has_pair i p (turns K n v) ≡ false = no_pair i p (turns K n v) (unnamed K n v v i (omega arith) (omega arith) (sym index.2)) in
        e ∙ (λ k. sym e k && not (sym old k))
    exact i p false e = e ∙ (λ k. sym e k && not (has_pair i p (turns K n v)))

-- what a version names whose turn it is, and what one names whose turn it isn't
pub in_turn : (K n v : ℕ) → is_turn K n v ≡ true → turns K n v ≡ turn K v ∷ []
in_turn K n v on = rw on refl

pub out_of_turn : (K n v : ℕ) → is_turn K n v ≡ false → turns K n v ≡ []
out_of_turn K n v off = rw off refl

pub turn_named : (K n v : ℕ) → is_turn K n v ≡ true → has_index (1 + v % K) (turns K n v) ≡ true
turn_named K n v on = rw (on, eq-eqb (1 + v % K) (1 + v % K) refl) refl

-- no version names anything
pub none_fit : (G numbers : ℕ) → numbers ≤ 1048576 → NamesFit G numbers (λ _. [])
none_fit G numbers few = record {
  distinct = λ v. refl;
  index_fits = λ v i p has. absurd (true≢false (sym has));
  number_fits = λ v i p has. absurd (true≢false (sym has));
  first = refl;
  few = few;
}

pub none_fresh : (K v : ℕ) → AreFresh K (λ _. []) v []
none_fresh K v = record {
  ascending = tt;
  exactly = λ i p. refl;
  free = λ i u has near. absurd (true≢false (sym has));
}
