-- Fresh pairs, handed out in order.
use Rattle.std.proofs.Common.{◌≡◌, ◌≢◌, ℕ, zero, suc, ◌+◌, ◌<◌, ◌≤◌, Bool, true, false, not, ◌&&◌, ◌||◌, eqb, true≢false, List, [], ◌∷◌, ◌++◌, length, refl, sym, ap, ◌∙◌, subst, ⊎_elim, inl, inr, arith, eq-eqb, ne_eqb, eqb-true, append_assoc, append-nil, length-append}
use Rattle.std.proofs.lemmas.Bool.{or_cases, and_parts, not-true}
use Rattle.std.proofs.lemmas.Bool.Decides.{nat_tests}
use mathlib.Core.Logic.{◌⊎◌}
use Rattle.std.specs.Prelude.{slice_index_or}
use Rattle.epoch_core.specs.Step.{has_pair, has_index, are_distinct, each_among}
use Rattle.epoch_core.specs.Fresh.{latest_first, AreAbove, Ascends, NamesFit, AreFresh, IsFresh}

or_swap : (a b c : Bool) → (a || (b || c)) ≡ (b || (a || c))
or_swap true true c = refl
or_swap true false c = refl
or_swap false b c = refl

-- what the turned list has
pub pair_latest : (i p : ℕ) (cs d : List (ℕ × ℕ)) → has_pair i p (latest_first cs d) ≡ (has_pair i p cs || has_pair i p d)
pair_latest i p [] d = refl
pair_latest i p (c ∷ cs) d = pair_latest i p cs (c ∷ d) ∙ (or_swap (has_pair i p cs) (eqb c.0 i && eqb c.1 p) (has_pair i p d) ∙ or_assoc (eqb c.0 i && eqb c.1 p) (has_pair i p cs) (has_pair i p d))
  where
    or_assoc : (a b c : Bool) → (a || (b || c)) ≡ ((a || b) || c)
    or_assoc true b c = refl
    or_assoc false b c = refl

pub index_latest : (i : ℕ) (cs d : List (ℕ × ℕ)) → has_index i (latest_first cs d) ≡ (has_index i cs || has_index i d)
index_latest i [] d = refl
index_latest i (c ∷ cs) d = index_latest i cs (c ∷ d) ∙ (or_swap (has_index i cs) (eqb c.0 i) (has_index i d) ∙ or_assoc (eqb c.0 i) (has_index i cs) (has_index i d))
  where
    or_assoc : (a b c : Bool) → (a || (b || c)) ≡ ((a || b) || c)
    or_assoc true b c = refl
    or_assoc false b c = refl

pub latest_more : (cs : List (ℕ × ℕ)) (c : ℕ × ℕ) (d : List (ℕ × ℕ)) → latest_first (cs ++ c ∷ []) d ≡ c ∷ latest_first cs d
latest_more [] c d = refl
latest_more (x ∷ cs) c d = latest_more cs c (x ∷ d)

pub or_false : (b : Bool) → (b || false) ≡ b
or_false true = refl
or_false false = refl

or_true : (b : Bool) → (b || true) ≡ true
or_true true = refl
or_true false = refl

-- a pair of a list, with those before it
pub at_middle : (front : List (ℕ × ℕ)) (c d : ℕ × ℕ) (left : List (ℕ × ℕ)) → slice_index_or (front ++ c ∷ left) (length front) d ≡ c
at_middle [] c d left = refl
at_middle (x ∷ front) c d left = at_middle front c d left

pub has_middle : (front : List (ℕ × ℕ)) (c : ℕ × ℕ) (left : List (ℕ × ℕ)) → has_pair c.0 c.1 (front ++ c ∷ left) ≡ true
has_middle [] c left = rw (eq-eqb c.0 c.0 refl, eq-eqb c.1 c.1 refl) refl
has_middle (x ∷ front) c left = let h = has_middle front c left in rw h (or_true _)

not_in_front : (i : ℕ) (front : List (ℕ × ℕ)) (c : ℕ × ℕ) (left : List (ℕ × ℕ)) → has_index i (front ++ c ∷ left) ≡ false → c.0 ≢ i
not_in_front i [] c left h e = let f = eq-eqb c.0 i e in true≢false (sym (rw f refl) ∙ h)
not_in_front i (x ∷ front) c left h e = not_in_front i front c left (rest (eqb x.0 i) _ h) e
  where
    rest : (a b : Bool) → (a || b) ≡ false → b ≡ false
    rest true b h = cc
    rest false b h = h

-- where all indexes are distinct, none of those before it has its index
pub apart_before : (front : List (ℕ × ℕ)) (c : ℕ × ℕ) (left : List (ℕ × ℕ)) → are_distinct (front ++ c ∷ left) ≡ true → has_index c.0 front ≡ false
apart_before [] c left h = refl
apart_before (x ∷ front) c left h =
    let b = and_parts _ _ h in
    let n = not_in_front x.0 front c left (not-true _ b.0) in
    let rest = apart_before front c left b.1 in
    grind (arith, nat_tests)

-- each of the first list is in the second or in the third, turned
pub among_latest : (m old fresh : List (ℕ × ℕ)) → each_among m old fresh ≡ true → each_among m old (latest_first fresh []) ≡ true
among_latest [] old fresh h = refl
among_latest (c ∷ cs) old fresh h =
    let b = and_parts _ _ h in
    let same : has_pair c.0 c.1 (latest_first fresh []) ≡ has_pair c.0 c.1 fresh = pair_latest c.0 c.1 fresh [] ∙ or_false _ in
    let rest = among_latest cs old fresh b.1 in
    let here : (has_pair c.0 c.1 old || has_pair c.0 c.1 fresh) ≡ true = b.0 in
    rw (same, here, rest) refl

-- a list whose first part is as long as it has no more
pub whole_front : (fresh front left : List (ℕ × ℕ)) → fresh ≡ front ++ left → length fresh ≤ length front → front ≡ fresh
whole_front fresh front [] e l = sym (e ∙ append-nil front)
whole_front fresh front (c ∷ left) e l = let n = ap (λ (x : List (ℕ × ℕ)). length x) e in absurd (omega (arith, length-append front (c ∷ left)))

-- and where it is shorter there is a next one
pub next_of : (fresh front left : List (ℕ × ℕ)) → fresh ≡ front ++ left → length front < length fresh → (c : ℕ × ℕ) × (rest : List (ℕ × ℕ)) × (left ≡ c ∷ rest)
next_of fresh front [] e l = let n = ap (λ (x : List (ℕ × ℕ)). length x) (e ∙ append-nil front) in absurd (omega arith)
next_of fresh front (c ∷ left) e l = (c, left, refl)

-- it is the one at that place
pub next_pair : (fresh front left : List (ℕ × ℕ)) (k : ℕ) (d : ℕ × ℕ) → fresh ≡ front ++ left → length front ≡ k → k < length fresh → (rest : List (ℕ × ℕ)) × (fresh ≡ front ++ slice_index_or fresh k d ∷ rest)
next_pair fresh front left k d e n l =
    let it = next_of fresh front left e (omega arith) in
    let whole : fresh ≡ front ++ it.0 ∷ it.1 = e ∙ ap (λ (x : List (ℕ × ℕ)). front ++ x) it.2 in
    let at : slice_index_or fresh k d ≡ it.0 = (λ i. slice_index_or (whole i) (sym n i) d) ∙ at_middle front it.0 d it.1 in
    (it.1, whole ∙ ap (λ (c : ℕ × ℕ). front ++ c ∷ it.1) (sym at))

own_pair : (c : ℕ × ℕ) (cs : List (ℕ × ℕ)) → has_pair c.0 c.1 (c ∷ cs) ≡ true
own_pair c cs = rw (eq-eqb c.0 c.0 refl, eq-eqb c.1 c.1 refl) refl

either_true : (a b : Bool) → b ≡ true → (a || b) ≡ true
either_true true b e = refl
either_true false b e = e

and_left : (a b : Bool) → (a && b) ≡ true → a ≡ true
and_left true b e = refl
and_left false b e = absurd (true≢false (sym e))

-- the pairs that a version names are those that the one before names, and the fresh ones
pub covers : (whole xs old fresh : List (ℕ × ℕ)) → ((i p : ℕ) → has_pair i p xs ≡ true → has_pair i p whole ≡ true)
    → ((i p : ℕ) → has_pair i p fresh ≡ (has_pair i p whole && not (has_pair i p old))) → each_among xs old fresh ≡ true
covers whole [] old fresh sub exact = refl
covers whole (c ∷ cs) old fresh sub exact =
    let here = sub c.0 c.1 (own_pair c cs) in
    let rest = covers whole cs old fresh (λ i p has. sub i p (either_true (eqb c.0 i && eqb c.1 p) (has_pair i p cs) has)) exact in
    go (has_pair c.0 c.1 old) (has_pair c.0 c.1 whole) (has_pair c.0 c.1 fresh) (each_among cs old fresh) (exact c.0 c.1) here rest
  where
    go : (o w f r : Bool) → f ≡ (w && not o) → w ≡ true → r ≡ true → ((o || f) && r) ≡ true
    go true w f r e h k = k
    go false w f r e h k = rw (e, h, k) refl

above_none : (i : ℕ) (cs : List (ℕ × ℕ)) → AreAbove i cs → has_index i cs ≡ false
above_none i [] a = refl
above_none i (c ∷ cs) a = let far = a.0 in rw (ne_eqb c.0 i (λ e. omega arith), above_none i cs a.1) refl

ascending_distinct : (cs : List (ℕ × ℕ)) → Ascends cs → are_distinct cs ≡ true
ascending_distinct [] a = refl
ascending_distinct (c ∷ cs) a = rw (above_none c.0 cs a.0, ascending_distinct cs a.1) refl

-- the pairs that a version names anew may be given their words
pub fresh_is : (K G numbers version : ℕ) (names : ℕ → List (ℕ × ℕ)) (fresh : List (ℕ × ℕ)) → NamesFit G numbers names → AreFresh K names version fresh → IsFresh K G numbers version names fresh
fresh_is K G numbers version names fresh fit are = record {
  once = ascending_distinct fresh are.ascending;
  within = λ i p has.
      let n = and_left (has_pair i p (names (version + 1))) (not (has_pair i p (names version))) (sym (are.exactly i p) ∙ has) in
      let x = fit.index_fits (version + 1) i p n in
      let y = fit.number_fits (version + 1) i p n in (x.0, x.1, y.1);
  free = are.free;
}

pub fresh_covers : (K version : ℕ) (names : ℕ → List (ℕ × ℕ)) (fresh : List (ℕ × ℕ)) → AreFresh K names version fresh → each_among (names (version + 1)) (names version) fresh ≡ true
fresh_covers K version names fresh are = covers (names (version + 1)) (names (version + 1)) (names version) fresh (λ i p has. has) are.exactly
