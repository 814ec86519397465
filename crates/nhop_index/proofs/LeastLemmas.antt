-- The least unused index, and the walk up the unused ones.
use Rattle.std.proofs.Common.{◌≡◌, ℕ, zero, suc, ◌+◌, ◌-◌, ◌<◌, ◌≤◌, Bool, true, false, not, ◌||◌, ◌⊎◌, refl, sym, ◌∙◌, ap, arith, inl, inr, List, [], ◌∷◌, length, nat_lt}
use Rattle.std.specs.Prelude.{◌==◌, if◌then◌else◌}
use Rattle.std.proofs.lemmas.Bool.{cases_Bool, cases_lt, cases_eq, eq-eqb, ne_eqb, or_left, or_right, both_ways, false_from_ne_true, true_from_ne_false, not_from_false, not_from_true}
use Rattle.nhop_index.specs.Indexes.{is_used, first_from, least_unused}
use Rattle.nhop_index.specs.Ages.{age_of, Walks}
use Rattle.nhop_index.specs.Laws.{LeastIsUnused}

-- ---- the pigeonhole: among the indexes 1 to n no more are used than the list is long
unfoldable tally : (ℕ → Bool) → ℕ → ℕ
tally p zero = 0
tally p (suc n) = if p (suc n) then suc (tally p n) else tally p n

tally_or : (p q : ℕ → Bool) (n : ℕ) → tally (λ j. p j || q j) n ≤ tally p n + tally q n
unfolding tally
tally_or p q zero = omega arith
tally_or p q (suc n) = go (p (suc n)) (q (suc n)) (tally_or p q n)
  where
    go : (s t : Bool) → tally (λ j. p j || q j) n ≤ tally p n + tally q n →
        (if s || t then suc (tally (λ j. p j || q j) n) else tally (λ j. p j || q j) n) ≤ (if s then suc (tally p n) else tally p n) + (if t then suc (tally q n) else tally q n)
    go true true ih = omega arith
    go true false ih = omega arith
    go false true ih = omega arith
    go false false ih = omega arith

tally_all : (p : ℕ → Bool) (n : ℕ) → ((j : ℕ) → 1 ≤ j → j ≤ n → p j ≡ true) → tally p n ≡ n
unfolding tally
tally_all p zero all = refl
tally_all p (suc n) all = rw (all (suc n) (omega arith) (omega arith)) (ap suc (tally_all p n (λ j a b. all j a (omega arith))))

tally_none : (p : ℕ → Bool) (n : ℕ) → ((j : ℕ) → j ≤ n → p j ≡ false) → tally p n ≡ 0
unfolding tally
tally_none p zero none = refl
tally_none p (suc n) none = rw (none (suc n) (omega arith)) (tally_none p n (λ j b. none j (omega arith)))

tally_same : (x n : ℕ) → tally (λ j. x == j) n ≤ 1
unfolding tally
tally_same x zero = omega arith
tally_same x (suc n) = elim (cases_eq x (suc n)) [
  | inl e ↦ (let z : tally (λ j. x == j) n ≡ 0 = tally_none (λ j. x == j) n (λ j b. ne_eqb x j (λ f. absurd (omega arith))) in
      rw (eq-eqb x (suc n) e) (omega arith))
  | inr ne ↦ rw (ne_eqb x (suc n) ne) (tally_same x n)
]

tally_used : (u : List ℕ) (n : ℕ) → tally (is_used u) n ≤ length u
tally_used [] n = let z = tally_none (is_used []) n (λ j b. refl) in omega arith
tally_used (x ∷ u) n =
    let ih = tally_used u n in
    let one = tally_same x n in
    let both = tally_or (λ j. x == j) (is_used u) n in
    omega arith

-- where the indexes 1 to n are used, the list is as long
pub used_few : (u : List ℕ) (n : ℕ) → ((j : ℕ) → 1 ≤ j → j ≤ n → is_used u j ≡ true) → n ≤ length u
used_few u n all = let e = tally_all (is_used u) n all in let h = tally_used u n in omega arith

-- ---- the least unused index
first_is : (p : ℕ → Bool) (room n g : ℕ) → n ≤ g → g ≤ n + room → ((j : ℕ) → n ≤ j → j < g → p j ≡ false) → p g ≡ true → first_from p room n ≡ g
unfolding first_from
first_is p zero n g h k fail pass = omega arith
first_is p (suc room) n g h k fail pass = elim (cases_eq n g) [
  | inl e ↦ rw e (rw pass refl)
  | inr ne ↦ rw (fail n (omega arith) (omega arith)) (first_is p room (suc n) g (omega arith) (omega arith) (λ j a b. fail j (omega arith) b) pass)
]

pub least_is : (u : List ℕ) (g : ℕ) → 1 ≤ g → ((j : ℕ) → 1 ≤ j → j < g → is_used u j ≡ true) → is_used u g ≡ false → least_unused u ≡ g
least_is u g pos below free =
    let few : g - 1 ≤ length u = used_few u (g - 1) (λ j a b. below j a (omega arith)) in
    first_is (λ i. not (is_used u i)) (length u) 1 g pos (omega arith) (λ j a b. not_from_true _ (below j a b)) (not_from_false _ free)

record Passes (p : ℕ → Bool) (room n g : ℕ) : Type 0 where
  low : n ≤ g
  high : g ≤ n + room
  fails : (j : ℕ) → n ≤ j → j < g → p j ≡ false
  passes : (p g ≡ true) ⊎ (g ≡ n + room)

first_passes : (p : ℕ → Bool) (room n : ℕ) → Passes p room n (first_from p room n)
unfolding first_from
first_passes p zero n = record { low = omega arith; high = omega arith; fails = λ j a b. absurd (omega arith); passes = inr (omega arith) }
first_passes p (suc room) n = elim (cases_Bool (p n)) [
  | inl y ↦ rw y (record { low = omega arith; high = omega arith; fails = λ j a b. absurd (omega arith); passes = inl y })
  | inr no_pass ↦ rw no_pass (later (first_passes p room (suc n)) no_pass)
]
  where
    later : {g : ℕ} → Passes p room (suc n) g → p n ≡ false → Passes p (suc room) n g
    later h f = record {
      low = omega (arith, h.low);
      high = omega (arith, h.high);
      fails = λ j a b. elim (cases_eq j n) [ inl e ↦ rw e f | inr ne ↦ h.fails j (omega arith) b ];
      passes = elim h.passes [ inl y ↦ inl y | inr e ↦ inr (omega arith) ];
    }

-- what the least unused index is
pub record IsLeast (u : List ℕ) (g : ℕ) : Type 0 where
  pub low : 1 ≤ g
  pub high : g ≤ length u + 1
  pub below : (j : ℕ) → 1 ≤ j → j < g → is_used u j ≡ true
  pub free : is_used u g ≡ false

pub least_unused_is : (u : List ℕ) → IsLeast u (least_unused u)
least_unused_is u =
    let h = first_passes (λ i. not (is_used u i)) (length u) 1 in
    let below : (j : ℕ) → 1 ≤ j → j < least_unused u → is_used u j ≡ true = λ j a b. true_from_ne_false _ (λ f. both_ways _ (h.fails j a b) (not_from_false _ f)) in
    record {
      low = h.low;
      high = omega (arith, h.high);
      below = below;
      free = false_from_ne_true _ (λ t. elim h.passes [
        | inl y ↦ both_ways _ (not_from_true _ t) y
        | inr e ↦ (let few : least_unused u ≤ length u = used_few u (least_unused u) (λ j a b. elim (cases_eq j (least_unused u)) [ inl s ↦ rw s t | inr ne ↦ below j a (omega arith) ]) in absurd (omega arith))
      ]);
    }

pub least_is_unused : LeastIsUnused
least_is_unused used = let l = least_unused_is used in (l.low, l.free, l.below)

-- ---- the walk stops at the least unused index, and goes on after it
pub walk_on : (K : ℕ) (u ages : List ℕ) (next g : ℕ) → Walks K u ages next → next ≤ g
    → ((j : ℕ) → next ≤ j → j < g → nat_lt (age_of ages j) (K - 1) ≡ true) → nat_lt (age_of ages g) (K - 1) ≡ false
    → (g ≡ least_unused u) × Walks K (g ∷ u) ages (g + 1)
walk_on K u ages next g w up young old = (
  sym (least_is u g (omega (arith, w.positive)) below free),
  record {
    positive = omega arith;
    below = λ j a b. elim (cases_eq g j) [
      | inl e ↦ or_left _ _ (eq-eqb g j e)
      | inr ne ↦ or_right _ _ (below j a (omega arith))
    ];
    above = λ j a. rw (ne_eqb g j (λ e. absurd (omega arith))) (w.above j (omega arith));
  },
)
  where
    below : (j : ℕ) → 1 ≤ j → j < g → is_used u j ≡ true
    below j a b = elim (cases_lt j next) [ inl lt ↦ w.below j a lt | inr ge ↦ w.above j ge ∙ young j ge b ]

    free : is_used u g ≡ false
    free = w.above g up ∙ old
