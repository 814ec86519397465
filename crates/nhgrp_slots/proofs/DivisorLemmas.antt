-- The greatest common divisor: what the definition finds, and that Euclid's algorithm finds the same.
use Rattle.std.proofs.Common.{◌≡◌, ℕ, zero, suc, ◌+◌, ◌%◌, ◌<◌, ◌≤◌, Bool, true, false, cond, List, [], ◌∷◌, ◌++◌, refl, ◌∙◌, ap, arith, length, inl, inr, sum}
use Rattle.std.specs.Prelude.{All}
use Prim.Native.Nat.{◌∣◌}
use Rattle.std.proofs.Math.Nat.{eq-zero_of_zero-dvd, one-dvd, dvd-add}
use Rattle.std.specs.Prelude.{◌==◌}
use Rattle.std.specs.Int.{IsGcd}
use Rattle.std.proofs.lemmas.Nat.Gcd.{dvd-zero, dvd_trans, le_of_dvd, dvd_of_mod-eq-zero, mod-eq-zero_of_dvd}
use Rattle.std.proofs.lemmas.List.Elements.{All-nil, All-cons, All-head, All-tail, All-push, All-weaker, All-contains, Contains-push}
use Rattle.std.proofs.lemmas.List.Sums.{AllPass-from_list_all, list_all-from_AllPass, sum_by-cons}
use Rattle.std.proofs.lemmas.Bool.{cases_eq, both_ways, eq-eqb, eqb-true, false_from_ne_true}
use Rattle.nhgrp_slots.specs.Slots.{greatest, divides_all, gcd_of}

-- the number that passes, and above which none passes, is the greatest
pub greatest_is : (p : ℕ → Bool) (n g : ℕ) → g ≤ n → (0 < g → p g ≡ true) → ((d : ℕ) → g < d → d ≤ n → p d ≡ false) → greatest p n ≡ g
unfolding greatest
greatest_is p zero g le pass none = omega arith
greatest_is p (suc n) g le pass none = elim (cases_eq g (suc n)) [
  | inl e ↦ rw (← e) (rw (pass (omega arith)) refl)
  | inr ne ↦ rw (none (suc n) (omega arith) (omega arith)) (greatest_is p n g (omega arith) pass (λ d a b. none d a (omega arith)))
]

-- g divides each of the numbers, and each number that divides them all divides g
pub record IsGcdOf (ws : List ℕ) (g : ℕ) : Type 0 where
  pub each : All (λ w. g ∣ w) ws
  pub most : (d : ℕ) → All (λ w. d ∣ w) ws → d ∣ g

pub IsGcdOf-nil : IsGcdOf [] 0
IsGcdOf-nil = record { each = All-nil (λ w. 0 ∣ w); most = λ d _. dvd-zero d }

pub IsGcdOf-push : (ws : List ℕ) (w g h : ℕ) → IsGcdOf ws g → IsGcd g w h → IsGcdOf (ws ++ w ∷ []) h
IsGcdOf-push ws w g h is next = record {
  each = All-push (λ v. h ∣ v) ws w (All-weaker (λ v. g ∣ v) (λ v. h ∣ v) (λ v d. dvd_trans h next.0 d) ws is.each) next.1;
  most = λ d all. next.2 d (is.most d (All-append_left (λ v. d ∣ v) ws (w ∷ []) all)) (All-last d all);
}
  where
    All-append_left : (P : ℕ → Type 0) (xs ys : List ℕ) → All P (xs ++ ys) → All P xs
    All-append_left P [] ys all = All-nil P
    All-append_left P (x ∷ xs) ys all = All-cons P x xs (All-head P x (xs ++ ys) all) (All-append_left P xs ys (All-tail P x (xs ++ ys) all))

    All-last : (d : ℕ) → All (λ v. d ∣ v) (ws ++ w ∷ []) → d ∣ w
    All-last d all = All-contains (λ v. d ∣ v) (ws ++ w ∷ []) w all (Contains-push ws w)

-- the test by remainders is division of each
test_from_each : (ws : List ℕ) (d : ℕ) → All (λ w. d ∣ w) ws → divides_all ws d ≡ true
test_from_each ws d all = list_all-from_AllPass (λ w. w % d == 0) ws (All-weaker (λ w. d ∣ w) (λ w. (w % d == 0) ≡ true) (λ w h. eq-eqb (w % d) 0 (mod-eq-zero_of_dvd d h)) ws all)

each_from_test : (ws : List ℕ) (d : ℕ) → divides_all ws d ≡ true → All (λ w. d ∣ w) ws
each_from_test ws d t = All-weaker (λ w. (w % d == 0) ≡ true) (λ w. d ∣ w) (λ w h. dvd_of_mod-eq-zero d (eqb-true (w % d) 0 h)) ws (AllPass-from_list_all (λ w. w % d == 0) ws t)

-- such a number is the greatest common divisor as the definition finds it
pub gcd_of_is : (ws : List ℕ) (g : ℕ) → 0 < length ws → All (λ w. 0 < w) ws → IsGcdOf ws g → gcd_of ws ≡ g
gcd_of_is [] g some pos is = absurd (omega arith)
gcd_of_is (w ∷ ws) g some pos is =
    let here : 0 < w = All-head (λ v. 0 < v) w ws pos in
    let first : g ∣ w = All-head (λ v. g ∣ v) w ws is.each in
    greatest_is (divides_all (w ∷ ws)) w g (le_of_dvd here first)
    (λ _. test_from_each (w ∷ ws) g is.each)
    (λ d above below. false_from_ne_true _ (λ t.
    let low : d ≤ g = le_of_dvd (positive g w here first) (is.most d (each_from_test (w ∷ ws) d t)) in
    omega arith))
  where
    positive : (g w : ℕ) → 0 < w → g ∣ w → 0 < g
    positive zero w h d = absurd (let z : w ≡ 0 = eq-zero_of_zero-dvd d in omega arith)
    positive (suc g) w h d = omega arith

-- it is not 0
pub gcd_of_pos : (ws : List ℕ) (g : ℕ) → 0 < length ws → All (λ w. 0 < w) ws → IsGcdOf ws g → 0 < g
gcd_of_pos [] g some pos is = absurd (omega arith)
gcd_of_pos (w ∷ ws) zero some pos is =
    let here : 0 < w = All-head (λ v. 0 < v) w ws pos in
    let z : w ≡ 0 = eq-zero_of_zero-dvd (All-head (λ v. 0 ∣ v) w ws is.each) in
    absurd (omega arith)
gcd_of_pos (w ∷ ws) (suc g) some pos is = omega arith

pub greatest_le : (test : ℕ → Bool) (n : ℕ) → greatest test n ≤ n
unfolding greatest
greatest_le test zero = omega arith
greatest_le test (suc n) =
    let ih = greatest_le test n in
    elim (test (suc n)) as (λ b. cond b (suc n) (greatest test n) ≤ suc n) [ true ↦ omega arith | false ↦ omega arith ]

-- where 1 passes, the greatest is 1 or more, and passes
pub greatest_passes : (test : ℕ → Bool) (n : ℕ) → test 1 ≡ true → 1 ≤ n → (1 ≤ greatest test n) × (test (greatest test n) ≡ true)
unfolding greatest
greatest_passes test zero one h = absurd (omega arith)
greatest_passes test (suc n) one h = go (test (suc n)) refl (λ k. greatest_passes test n one k)
  where
    go : (b : Bool) → test (suc n) ≡ b → (1 ≤ n → (1 ≤ greatest test n) × (test (greatest test n) ≡ true)) → (1 ≤ cond b (suc n) (greatest test n)) × (test (cond b (suc n) (greatest test n)) ≡ true)
    go true e ih = (omega arith, e)
    go false e ih = elim (cases_eq n 0) [
      | inl z ↦ absurd (both_ways (test (suc n)) e (ap (λ m. test (suc m)) z ∙ one))
      | inr ne ↦ ih (omega arith)
    ]

-- the greatest common divisor is 1 or more, and divides each weight
pub gcd_of_divides : (ws : List ℕ) → 0 < length ws → All (λ w. 0 < w) ws → (0 < gcd_of ws) × All (λ w. gcd_of ws ∣ w) ws
gcd_of_divides [] some pos = absurd (omega arith)
gcd_of_divides (w ∷ ws) some pos =
    let here : 0 < w = All-head (λ v. 0 < v) w ws pos in
    let one = test_from_each (w ∷ ws) 1 (All-weaker (λ v. 0 < v) (λ v. 1 ∣ v) (λ v _. one-dvd v) (w ∷ ws) pos) in
    let found = greatest_passes (divides_all (w ∷ ws)) w one here in
    (found.0, each_from_test (w ∷ ws) (gcd_of (w ∷ ws)) found.1)

-- what divides each number divides their sum
pub dvd-sum : (g : ℕ) (ws : List ℕ) → All (λ w. g ∣ w) ws → g ∣ sum ws
dvd-sum g [] each = dvd-zero g
dvd-sum g (w ∷ ws) each =
    rw (sum_by-cons (λ x. x) w ws) (dvd-add g (All-head (λ v. g ∣ v) w ws each) (dvd-sum g ws (All-tail (λ v. g ∣ v) w ws each)))

-- it is no greater than their sum
pub gcd_of-le_sum : (ws : List ℕ) → 0 < length ws → All (λ w. 0 < w) ws → gcd_of ws ≤ sum ws
gcd_of-le_sum [] some pos = absurd (omega arith)
gcd_of-le_sum (w ∷ ws) some pos =
    let low = greatest_le (divides_all (w ∷ ws)) w in
    let split : sum (w ∷ ws) ≡ w + sum ws = sum_by-cons (λ x. x) w ws in
    omega arith
