-- The ages of indexes against the list of all versions.
use Rattle.std.proofs.Common.{◌≡◌, ℕ, zero, suc, ◌+◌, ◌-◌, ◌<◌, ◌≤◌, Bool, true, false, ◌||◌, refl, sym, ◌∙◌, ap, arith, inl, inr, min, List, [], ◌∷◌, ◌++◌, length, length-append, nat_lt, get_or, take, replicate}
use Rattle.std.specs.Prelude.{◌==◌}
use Rattle.std.specs.List.{flat_map}
use Rattle.std.specs.Map.{values_of}
use Rattle.std.proofs.Math.ListN.{get_or-eq_default}
use Rattle.std.proofs.lemmas.Bool.{cases_lt, lt-ltb, le-ltb, false_from_ne_true}
use Rattle.std.proofs.lemmas.List.{take_all, length-replicate}
use Rattle.std.proofs.lemmas.List.Folds.{list_any-append}
use Rattle.nhop_index.specs.Indexes.{is_used, recent, window}
use Rattle.nhop_index.specs.Ages.{age_of, aged, AreAged, AreAgesOf, Walks}

-- no version, and no age
pub ages_none : (X : Type 0) (K : ℕ) → K ≤ 8 → AreAgesOf {X = X} K [] []
ages_none X K few i zero h = sym (le-ltb 255 0 (omega arith))
ages_none X K few i (suc d) h = sym (le-ltb 255 (suc d) (omega arith))

-- one version more
pub ages_next : {X : Type 0} (K : ℕ) (versions : List (List (X × ℕ))) (names : List (X × ℕ)) (old new : List ℕ) → K ≤ 8
    → AreAgesOf K versions old → AreAged names old new → AreAgesOf K (names ∷ versions) new
ages_next K versions names old new few is step i zero h = sym (le-ltb (age_of new i) 0 (omega arith))
ages_next K versions names old new few is step i (suc d) h =
    list_any-append (λ j. j == i) (values_of names) (recent d versions)
    ∙ ap (λ b. is_used (values_of names) i || b) (is i d (omega arith))
    ∙ go (is_used (values_of names) i)
    ∙ sym (ap (λ a. nat_lt a (suc d)) (step i))
  where
    go : (used : Bool) → (used || nat_lt (age_of old i) d) ≡ nat_lt (aged used (age_of old i)) (suc d)
    go true = sym (lt-ltb 0 (suc d) (omega arith))
    go false = elim (cases_lt (age_of old i) d) [
      | inl lt ↦ lt-ltb (age_of old i) d lt ∙ sym (lt-ltb (min (age_of old i + 1) 255) (suc d) (omega arith))
      | inr ge ↦ le-ltb (age_of old i) d ge ∙ sym (le-ltb (min (age_of old i + 1) 255) (suc d) (omega arith))
    ]

-- the walk begins
pub walk_start : {X : Type 0} (K : ℕ) (versions : List (List (X × ℕ))) (ages : List ℕ) → 1 ≤ K → AreAgesOf K versions ages → Walks K (window K versions) ages 1
walk_start K versions ages one is = record {
  positive = omega arith;
  below = λ j a b. absurd (omega arith);
  above = λ j a. is j (K - 1) (omega arith);
}

-- ---- a table of ages that is made longer, and counted on
get_or-longer : (old : List ℕ) (n i : ℕ) → get_or (old ++ replicate n 255) i 255 ≡ get_or old i 255
get_or-longer [] zero i = refl
get_or-longer [] (suc n) zero = refl
get_or-longer [] (suc n) (suc i) = get_or-longer [] n i
get_or-longer (x ∷ old) n zero = refl
get_or-longer (x ∷ old) n (suc i) = get_or-longer old n i

pub aged_all : {X : Type 0} (names : List (X × ℕ)) (old grown new : List ℕ) (n len : ℕ) → n ≡ length old → length old ≤ len → grown ≡ take len old ++ replicate (len - n) 255
    → ((i : ℕ) → is_used (values_of names) i ≡ true → i < len) → length new ≡ length grown
    → ((i : ℕ) → i < length grown → get_or new i 255 ≡ aged (is_used (values_of names) i) (get_or grown i 255)) → AreAged names old new
aged_all names old grown new n len count room grown_is within same step i = elim (cases_lt i (length grown)) [
  | inl lt ↦ step i lt ∙ ap (aged (is_used (values_of names) i)) (longer i)
  | inr ge ↦ (
      let past : get_or new i 255 ≡ 255 = get_or-eq_default new 255 (omega (arith, same)) in
      let before : get_or old i 255 ≡ 255 = get_or-eq_default old 255 (omega (arith, size)) in
      let unused : is_used (values_of names) i ≡ false = false_from_ne_true _ (λ u. let h = within i u in absurd (omega (arith, size, h))) in
      past ∙ sym (rw (unused, before) refl))
]
  where
    all : take len old ≡ old
    all = take_all len old room

    longer : (i : ℕ) → get_or grown i 255 ≡ get_or old i 255
    longer i = ap (λ xs. get_or xs i 255) grown_is ∙ rw all (get_or-longer old (len - n) i)

    size : length grown ≡ len
    size = ap length grown_is ∙ rw all (length-append old (replicate (len - n) 255) ∙ (let r : length (replicate {A = ℕ} (len - n) 255) ≡ len - n = length-replicate {A = ℕ} (len - n) 255 in omega arith))
