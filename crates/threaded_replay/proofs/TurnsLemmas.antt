-- The gets of one family that one worker makes, as the definition finds them and as the worker goes through them.
use Rattle.std.proofs.Common.{◌≡◌, ◌≢◌, ◌∙◌, inl, inr, ℕ, zero, suc, ◌+◌, ◌-◌, ◌*◌, ◌/◌, ◌%◌, ◌<◌, ◌≤◌, true, false, List, [], ◌∷◌, ◌++◌, Option, Some, length, drop, refl, sym, ap, subst, arith, add-one}
use Rattle.std.specs.Prelude.{◌==◌, map}
use Rattle.std.specs.List.{slice_get}
use Rattle.std.proofs.lemmas.Bool.{cases_Bool, cases_lt, eq-eqb}
use Rattle.std.proofs.lemmas.Bool.Decides.{eqb_tells}
use Rattle.std.proofs.Math.Bool.{and-false}
use Rattle.std.proofs.lemmas.List.{drop_all, map-append}
use Rattle.std.proofs.lemmas.Nat.{div-add-mod'}
use Rattle.std.proofs.lemmas.Option.{slice_get_cases}
use Rattle.std.proofs.Math.Nat.{add-mul-mod_self_right, mod-eq_of_lt}
use Rattle.threaded_replay.specs.declared.got.Got.{Got}
use Rattle.threaded_replay.specs.Legal.{Family, Get, is_in, turns_from}
use Rattle.threaded_replay.specs.Serving.{entries_from, entry_of}
use Rattle.threaded_replay.proofs.AskLemmas.{from_place}
use Rattle.threaded_replay.proofs.ServingLemmas.{first_step, next_step}

-- ---- numbers

-- less than n behind a number there is none with the same remainder
pub apart : (n w b i : ℕ) → b % n ≡ w → w < n → 0 < i → i < n → (b + i) % n ≢ w
apart n w b i at below more less same =
    let whole : b ≡ w + b / n * n = omega (arith, div-add-mod' b n, at) in
    let moved : (b + i) % n ≡ (w + i) % n =
    ap (λ k. k % n) (let e : b + i ≡ w + i + b / n * n = omega (arith, whole) in e) ∙ add-mul-mod_self_right (w + i) (b / n) n in
    elim (cases_lt (w + i) n) [
      | inl within ↦ absurd (omega (arith, within, more, same, moved, mod-eq_of_lt within))
      | inr past ↦ (let e : w + i ≡ (w + i - n) + 1 * n = omega (arith, past) in
          let small : w + i - n < n = omega (arith, past, below, less) in
          let back : (w + i) % n ≡ w + i - n = ap (λ k. k % n) e ∙ add-mul-mod_self_right (w + i - n) 1 n ∙ mod-eq_of_lt small in
          absurd (omega (arith, past, back, moved, same, less)))
    ]

-- ---- turns

module _ (n w : ℕ) (h : Family) (gets : List Get) where
  -- a get that isn't the worker's is no turn
  not_own : (c : ℕ) → c % n ≢ w → turns_from c n w h (drop c gets) ≡ turns_from (c + 1) n w h (drop (c + 1) gets)
  not_own c other =
      let z : (c % n == w) ≡ false = elim (eqb_tells (c % n) w) [ inl p ↦ absurd (other p.1) | inr p ↦ p.0 ] in
      elim (slice_get_cases gets c).1 [
        | inl p ↦ rw (from_place gets c p.0 p.2) (rw (z, and-false) (rw add-one refl))
        | inr p ↦ rw (drop_all c gets p.0, drop_all (c + 1) gets (omega (arith, p.0))) refl
      ]

  -- nor are many
  pub not_owns : (c k : ℕ) → ((i : ℕ) → i < k → (c + i) % n ≢ w) → turns_from c n w h (drop c gets) ≡ turns_from (c + k) n w h (drop (c + k) gets)
  not_owns c zero others = let e : c + 0 ≡ c = omega arith in rw e refl
  not_owns c (suc k) others =
      let e : c + k + 1 ≡ c + suc k = omega arith in
      not_owns c k (λ i lt. others i (omega (arith, lt))) ∙ not_own (c + k) (others k (omega arith)) ∙ rw e refl

  -- a get of the worker's is a turn where it is of the family
  own_here : (c : ℕ) (get : Get) (got : Got) (rest : List Get) → c % n ≡ w
      → turns_from c n w h (get ∷ rest) ≡ map (λ (e : ℕ × Got). e.0) (entry_of h c (Some get) got) ++ turns_from (suc c) n w h rest
  own_here c get got rest own =
      let z : (c % n == w) ≡ true = eq-eqb (c % n) w own in
      elim (cases_Bool (is_in h get)) [
        | inl y ↦ rw (y, z) refl
        | inr o ↦ rw o refl
      ]

  -- the worker's answers, of which there is one for each of its gets from c on, are those of its turns
  pub turns_are : (gots : List Got) (c : ℕ) → c % n ≡ w → w < n
      → ((i : ℕ) (got : Got) → slice_get gots i ≡ Some got → (get : Get) × (slice_get gets (c + i * n) ≡ Some get))
      → length gets ≤ c + length gots * n
      → turns_from c n w h (drop c gets) ≡ map (λ (e : ℕ × Got). e.0) (entries_from h gets n c gots)
  turns_are [] c own below each all = rw (drop_all c gets (omega (arith, all))) refl
  turns_are (got ∷ gots) c own below each all =
      let first = each 0 got refl in
      let get = first.0 in
      let here : slice_get gets c ≡ Some get = subst (λ k. slice_get gets k ≡ Some get) (first_step c n) first.1 in
      let back : c + 1 + (n - 1) ≡ c + n = omega (arith, below) in
      let later : turns_from (c + 1) n w h (drop (c + 1) gets) ≡ turns_from (c + n) n w h (drop (c + n) gets) =
      rw back at (not_owns (c + 1) (n - 1) (λ i lt. subst (λ k. k % n ≢ w) (let e : c + (i + 1) ≡ c + 1 + i = omega arith in e) (apart n w c (i + 1) own below (omega arith) (omega (arith, lt))))) in
      let own_next : (c + n) % n ≡ w = ap (λ k. k % n) (let e : c + n ≡ c + 1 * n = omega arith in e) ∙ add-mul-mod_self_right c 1 n ∙ own in
      let rest = turns_are gots (c + n) own_next below
      (λ i x e. (let g = each (suc i) x e in (g.0, subst (λ k. slice_get gets k ≡ Some g.0) (sym (next_step c n i)) g.1)))
      (omega (arith, all, next_step c n (length gots))) in
      ap (λ (gs : List Get). turns_from c n w h gs) (from_place gets c get here)
      ∙ own_here c get got (drop (c + 1) gets) own
      ∙ ap (λ xs. map (λ (e : ℕ × Got). e.0) (entry_of h c (Some get) got) ++ xs) (ap (λ k. turns_from k n w h (drop (c + 1) gets)) (sym (add-one c)) ∙ later ∙ rest)
      ∙ sym (map-append (λ (e : ℕ × Got). e.0) (entry_of h c (Some get) got) (entries_from h gets n (c + n) gots))
      ∙ ap (λ (o : Option Get). map (λ (e : ℕ × Got). e.0) (entry_of h c o got ++ entries_from h gets n (c + n) gots)) (sym here)

  -- all of the worker's answers are those of its turns
  pub all_turns : (gots : List Got) → w < n
      → ((i : ℕ) (got : Got) → slice_get gots i ≡ Some got → (get : Get) × (slice_get gets (w + i * n) ≡ Some get))
      → length gets ≤ w + length gots * n
      → turns_from 0 n w h gets ≡ map (λ (e : ℕ × Got). e.0) (entries_from h gets n w gots)
  all_turns gots below each all =
      let start : 0 + w ≡ w = omega arith in
      (rw start at (not_owns 0 w (λ i lt same. (let e : 0 + i ≡ i = omega arith in
      let m : i % n ≡ i = mod-eq_of_lt {n = i} {m = n} (omega (arith, lt, below)) in
      absurd (omega (arith, rw e at same, m, lt))))))
      ∙ turns_are gots w (mod-eq_of_lt below) below each all
