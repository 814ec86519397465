-- Laws of indexes over all versions, for elements of any type that their order tells apart.
use Rattle.std.proofs.Common.{◌≡◌, ℕ, zero, suc, ◌+◌, ◌-◌, ◌*◌, ◌<◌, ◌≤◌, Bool, true, false, cond, ◌||◌, ◌⊎◌, refl, sym, ◌∙◌, ap, arith, inl, inr, Option, Some, None, List, [], ◌∷◌, ◌++◌, length, length-append, take, length-take}
use Rattle.std.specs.Prelude.{All, ◌==◌}
use Rattle.std.specs.List.{flat_map, slice_get}
use Rattle.std.specs.Map.{values_of, keys_of}
use Rattle.std.specs.declared.cmp.Ordering.{Ordering}
use Rattle.std.specs.declared.cmp.Ordering.TheVariants.{Less, Equal, Greater}
use Rattle.std.specs.Ordering.{is_eq}
use Rattle.std.proofs.lemmas.Bool.{false≢true, both_ways, or_left, or_right, or_parts, eq-eqb}
use Rattle.std.proofs.Math.Nat.{mul-le-mul_right}
use Rattle.std.proofs.lemmas.List.Folds.{list_any-append}
use Rattle.std.proofs.lemmas.List.Elements.{All-head, All-tail, All-cons, All-nil, All-take}
use Rattle.nhop_index.specs.Indexes.{is_used, named, name_and, index_in, least_unused, newest, recent, window, next_names, all_names}
use Rattle.nhop_index.specs.Merge.{Covers}
use Rattle.nhop_index.specs.Laws.{IsNamed}
use Rattle.nhop_index.proofs.LeastLemmas.{least_unused_is}

-- few lists of few elements
pub length-flat_map_few : {X : Type 0} (f : X → List ℕ) (xs : List X) (n : ℕ) → All (λ x. length (f x) ≤ n) xs → length (flat_map f xs) ≤ length xs * n
length-flat_map_few f [] n few = omega arith
length-flat_map_few f (x ∷ xs) n few =
    let here : length (f x) ≤ n = All-head (λ y. length (f y) ≤ n) x xs few in
    let ih = length-flat_map_few f xs n (All-tail (λ y. length (f y) ≤ n) x xs few) in
    omega (arith, length-append (f x) (flat_map f xs))

-- as many indexes as targets, and the same targets
pub length-named : {X : Type 0} (cmp : X → X → Ordering) (before : List (X × ℕ)) (live : List X) (u : List ℕ) → length (values_of (named cmp before live u)) ≡ length live
length-named cmp before [] u = refl
length-named cmp before (t ∷ ts) u = go (index_in cmp before t) (λ v. length-named cmp before ts v)
  where
    go : (o : Option ℕ) → ((v : List ℕ) → length (values_of (named cmp before ts v)) ≡ length ts) → length (values_of (name_and t o u (named cmp before ts))) ≡ suc (length ts)
    go (Some i) ih = ap suc (ih u)
    go None ih = ap suc (ih _)

pub keys-named : {X : Type 0} (cmp : X → X → Ordering) (before : List (X × ℕ)) (live : List X) (u : List ℕ) → keys_of (named cmp before live u) ≡ live
keys-named cmp before [] u = refl
keys-named {X} cmp before (t ∷ ts) u = go (index_in cmp before t) (λ v. keys-named cmp before ts v)
  where
    go : (o : Option ℕ) → ((v : List ℕ) → keys_of (named cmp before ts v) ≡ ts) → keys_of (name_and t o u (named cmp before ts)) ≡ t ∷ ts
    go (Some i) ih = ap (λ (xs : List X). t ∷ xs) (ih u)
    go None ih = ap (λ (xs : List X). t ∷ xs) (ih _)

module _ {X : Type 0} (cmp : X → X → Ordering) (same : (x y : X) → cmp x y ≡ Equal → x ≡ y) where
  pub found : (es : List (X × ℕ)) (t : X) (i : ℕ) → index_in cmp es t ≡ Some i → IsNamed t i es
  found [] t i h = cc
  found (e ∷ es) t i h = go (cmp t e.0) refl h (found es t i)
    where
      go : (o : Ordering) → cmp t e.0 ≡ o → cond (is_eq o) (Some e.1) (index_in cmp es t) ≡ Some i → (index_in cmp es t ≡ Some i → IsNamed t i es) → IsNamed t i (e ∷ es)
      go Equal c k ih =
          let f = same t e.0 c in
          let g : e.1 ≡ i = cc in
          inl (ap (λ x. let q : X × ℕ = (x, e.1) in q) (sym f) ∙ ap (λ n. let q : X × ℕ = (t, n) in q) g)
      go Less c k ih = inr (ih k)
      go Greater c k ih = inr (ih k)

  -- an index of the next version is of the one before, or unused
  kept_or_unused : (before : List (X × ℕ)) (live : List X) (u : List ℕ) (t : X) (i : ℕ) → IsNamed t i (named cmp before live u) → IsNamed t i before ⊎ (is_used u i ≡ false)
  kept_or_unused before [] u t i h = elim h [ ]
  kept_or_unused before (s ∷ ss) u t i h = go (index_in cmp before s) refl (λ v. kept_or_unused before ss v t i) h
    where
      go : (o : Option ℕ) → index_in cmp before s ≡ o → ((v : List ℕ) → IsNamed t i (named cmp before ss v) → IsNamed t i before ⊎ (is_used v i ≡ false)) →
          IsNamed t i (name_and s o u (named cmp before ss)) → IsNamed t i before ⊎ (is_used u i ≡ false)
      go (Some j) o ih (inl e) =
          let a : s ≡ t = ap (λ p. p.0) e in
          let b : j ≡ i = ap (λ p. p.1) e in
          inl (rw (a, b) at (found before s j o))
      go (Some j) o ih (inr k) = ih u k
      go None o ih (inl e) =
          let b : least_unused u ≡ i = ap (λ p. p.1) e in
          inr (rw b at (least_unused_is u).free)
      go None o ih (inr k) = elim (ih (least_unused u ∷ u) k) [ inl b ↦ inl b | inr f ↦ inr (or_parts _ _ f).1 ]

  -- the next version has one target at most at an index
  once_next : (before : List (X × ℕ)) → ((t s : X) (i : ℕ) → IsNamed t i before → IsNamed s i before → t ≡ s) →
      (live : List X) (u : List ℕ) → ((t : X) (i : ℕ) → IsNamed t i before → is_used u i ≡ true) →
      (t s : X) (i : ℕ) → IsNamed t i (named cmp before live u) → IsNamed s i (named cmp before live u) → t ≡ s
  once_next before once [] u covers t s i h k = elim h [ ]
  once_next before once (r ∷ rs) u covers t s i h k = go (index_in cmp before r) refl (λ v c. once_next before once rs v c t s i) h k
    where
      again : (x y : X) (j : ℕ) → index_in cmp before r ≡ Some j → r ≡ x → j ≡ i → IsNamed y i (named cmp before rs u) → x ≡ y
      again x y j o a b h =
          let here : IsNamed x i before = rw (a, b) at (found before r j o) in
          elim (kept_or_unused before rs u y i h) [ inl there ↦ once x y i here there | inr f ↦ absurd (both_ways _ f (covers x i here)) ]

      never : (y : X) → least_unused u ≡ i → IsNamed y i (named cmp before rs (least_unused u ∷ u)) → ⊥
      never y e h = elim (kept_or_unused before rs (least_unused u ∷ u) y i h) [
        | inl there ↦ both_ways _ (rw e at (least_unused_is u).free) (covers y i there)
        | inr f ↦ both_ways _ (or_parts _ _ f).0 (eq-eqb (least_unused u) i e)
      ]

      go : (o : Option ℕ) → index_in cmp before r ≡ o →
          ((v : List ℕ) → ((x : X) (j : ℕ) → IsNamed x j before → is_used v j ≡ true) → IsNamed t i (named cmp before rs v) → IsNamed s i (named cmp before rs v) → t ≡ s) →
          IsNamed t i (name_and r o u (named cmp before rs)) → IsNamed s i (name_and r o u (named cmp before rs)) → t ≡ s
      go (Some j) o ih (inl e) (inl f) = let a : r ≡ t = ap (λ p. p.0) e in let b : r ≡ s = ap (λ p. p.0) f in sym a ∙ b
      go (Some j) o ih (inl e) (inr k) = again t s j o (ap (λ p. p.0) e) (ap (λ p. p.1) e) k
      go (Some j) o ih (inr h) (inl f) = sym (again s t j o (ap (λ p. p.0) f) (ap (λ p. p.1) f) h)
      go (Some j) o ih (inr h) (inr k) = ih u covers h k
      go None o ih (inl e) (inl f) = let a : r ≡ t = ap (λ p. p.0) e in let b : r ≡ s = ap (λ p. p.0) f in sym a ∙ b
      go None o ih (inl e) (inr k) = absurd (never s (ap (λ p. p.1) e) k)
      go None o ih (inr h) (inl f) = absurd (never t (ap (λ p. p.1) f) h)
      go None o ih (inr h) (inr k) = ih (least_unused u ∷ u) (λ x j b. or_right _ _ (covers x j b)) h k

  -- the window has all indexes of the newest K - 1 versions
  pub used_named : (names : List (X × ℕ)) (t : X) (i : ℕ) → IsNamed t i names → is_used (values_of names) i ≡ true
  used_named [] t i h = elim h [ ]
  used_named (e ∷ es) t i (inl h) = or_left _ _ (eq-eqb e.1 i (ap (λ p. p.1) h))
  used_named (e ∷ es) t i (inr h) = or_right _ _ (used_named es t i h)

  pub used_within : (n : ℕ) (versions : List (List (X × ℕ))) (d : ℕ) (names : List (X × ℕ)) (t : X) (i : ℕ) → d < n → slice_get versions d ≡ Some names → IsNamed t i names →
      is_used (flat_map (λ ns. values_of ns) (take n versions)) i ≡ true
  used_within n [] d names t i h at is = cc
  used_within zero (v ∷ vs) d names t i h at is = absurd (omega arith)
  used_within (suc n) (v ∷ vs) zero names t i h at is =
      let e : v ≡ names = cc in
      let here : is_used (values_of v) i ≡ true = rw e (used_named names t i is) in
      list_any-append (λ j. j == i) (values_of v) (flat_map (λ ns. values_of ns) (take n vs)) ∙ or_left _ _ here
  used_within (suc n) (v ∷ vs) (suc d) names t i h at is =
      list_any-append (λ j. j == i) (values_of v) (flat_map (λ ns. values_of ns) (take n vs)) ∙ or_right _ _ (used_within n vs d names t i (omega arith) at is)

  pub newest_at : (versions : List (List (X × ℕ))) (t : X) (i : ℕ) → IsNamed t i (newest versions) → slice_get versions 0 ≡ Some (newest versions)
  newest_at [] t i h = elim h [ ]
  newest_at (v ∷ vs) t i h = refl

  pub once : (K : ℕ) (lives : List (List X)) (t s : X) (i : ℕ) → 2 ≤ K → IsNamed t i (newest (all_names cmp K lives)) → IsNamed s i (newest (all_names cmp K lives)) → t ≡ s
  once K [] t s i two h k = elim h [ ]
  once K (live ∷ older) t s i two h k =
      once_next (newest (all_names cmp K older)) (λ x y j. once K older x y j two) live (window K (all_names cmp K older))
      (λ x j b. used_within (K - 1) (all_names cmp K older) 0 (newest (all_names cmp K older)) x j (omega arith) (newest_at (all_names cmp K older) x j b) b) t s i h k

  pub apart_newest : (K : ℕ) (lives : List (List X)) (d : ℕ) (xs : List (X × ℕ)) (t s : X) (i : ℕ) → 2 ≤ K → d < K → slice_get (all_names cmp K lives) d ≡ Some xs →
      IsNamed t i xs → IsNamed s i (newest (all_names cmp K lives)) → t ≡ s
  apart_newest K [] d xs t s i two near at h k = elim k [ ]
  apart_newest K (live ∷ older) zero xs t s i two near at h k =
      let e : newest (all_names cmp K (live ∷ older)) ≡ xs = cc in
      once K (live ∷ older) t s i two (rw e h) k
  apart_newest K (live ∷ older) (suc d) xs t s i two near at h k =
      let ih = apart_newest K older d xs t s i two (omega arith) at h in
      elim (kept_or_unused (newest (all_names cmp K older)) live (window K (all_names cmp K older)) s i k) [
        | inl b ↦ ih b
        | inr f ↦ absurd (both_ways _ f (used_within (K - 1) (all_names cmp K older) d xs t i (omega arith) at h))
      ]

  pub apart : (K : ℕ) (lives : List (List X)) (a d : ℕ) (xs ys : List (X × ℕ)) (t s : X) (i : ℕ) → 2 ≤ K → d < K →
      slice_get (all_names cmp K lives) a ≡ Some ys → slice_get (all_names cmp K lives) (a + d) ≡ Some xs → IsNamed t i xs → IsNamed s i ys → t ≡ s
  apart K [] a d xs ys t s i two near at far h k = cc
  apart K (live ∷ older) zero d xs ys t s i two near at far h k =
      let e : newest (all_names cmp K (live ∷ older)) ≡ ys = cc in
      let z : 0 + d ≡ d = omega arith in
      apart_newest K (live ∷ older) d xs t s i two near (rw z at far) h (rw e k)
  apart K (live ∷ older) (suc a) d xs ys t s i two near at far h k =
      let z : suc a + d ≡ suc (a + d) = omega arith in
      apart K older a d xs ys t s i two near at (rw z at far) h k

  -- an index is of the version before, or no greater than the numbers of those used and of the targets together
  kept_or_small : (before : List (X × ℕ)) (live : List X) (u : List ℕ) (t : X) (i : ℕ) → IsNamed t i (named cmp before live u) →
      IsNamed t i before ⊎ ((1 ≤ i) × (i ≤ length u + length live))
  kept_or_small before [] u t i h = elim h [ ]
  kept_or_small before (s ∷ ss) u t i h = go (index_in cmp before s) refl (λ v. kept_or_small before ss v t i) h
    where
      go : (o : Option ℕ) → index_in cmp before s ≡ o → ((v : List ℕ) → IsNamed t i (named cmp before ss v) → IsNamed t i before ⊎ ((1 ≤ i) × (i ≤ length v + length ss))) →
          IsNamed t i (name_and s o u (named cmp before ss)) → IsNamed t i before ⊎ ((1 ≤ i) × (i ≤ length u + suc (length ss)))
      go (Some j) o ih (inl e) =
          let a : s ≡ t = ap (λ p. p.0) e in
          let b : j ≡ i = ap (λ p. p.1) e in
          inl (rw (a, b) at (found before s j o))
      go (Some j) o ih (inr k) = elim (ih u k) [ inl b ↦ inl b | inr f ↦ inr (f.0, omega (arith, f.1)) ]
      go None o ih (inl e) =
          let b : least_unused u ≡ i = ap (λ p. p.1) e in
          let l = least_unused_is u in
          inr (omega (arith, l.low), omega (arith, l.high))
      go None o ih (inr k) = elim (ih (least_unused u ∷ u) k) [ inl b ↦ inl b | inr f ↦ inr (f.0, omega (arith, f.1)) ]

  few_names : (K LIVE : ℕ) (lives : List (List X)) → All (λ live. length live ≤ LIVE) lives → All (λ names. length (values_of names) ≤ LIVE) (all_names cmp K lives)
  few_names K LIVE [] few = All-nil (λ names. length (values_of names) ≤ LIVE)
  few_names K LIVE (live ∷ older) few =
      let here : length live ≤ LIVE = All-head (λ l. length l ≤ LIVE) live older few in
      let n = next_names cmp K (all_names cmp K older) live in
      All-cons (λ names. length (values_of names) ≤ LIVE) n (all_names cmp K older)
      (omega (arith, length-named cmp (newest (all_names cmp K older)) live (window K (all_names cmp K older))))
      (few_names K LIVE older (All-tail (λ l. length l ≤ LIVE) live older few))

  pub small : (K LIVE : ℕ) (lives : List (List X)) (a : ℕ) (xs : List (X × ℕ)) (t : X) (i : ℕ) → 1 ≤ K → All (λ live. length live ≤ LIVE) lives →
      slice_get (all_names cmp K lives) a ≡ Some xs → IsNamed t i xs → (1 ≤ i) × (i ≤ K * LIVE)
  small K LIVE [] a xs t i one few at h = cc
  small K LIVE (live ∷ older) (suc a) xs t i one few at h = small K LIVE older a xs t i one (All-tail (λ l. length l ≤ LIVE) live older few) at h
  small K LIVE (live ∷ older) zero xs t i one few at h =
      let rest = All-tail (λ l. length l ≤ LIVE) live older few in
      let here : length live ≤ LIVE = All-head (λ l. length l ≤ LIVE) live older few in
      let e : next_names cmp K (all_names cmp K older) live ≡ xs = cc in
      let now : IsNamed t i (next_names cmp K (all_names cmp K older) live) = rw e h in
      let H = all_names cmp K older in
      elim (kept_or_small (newest H) live (window K H) t i now) [
        | inl b ↦ small K LIVE older 0 (newest H) t i one rest (newest_at H t i b) b
        | inr f ↦ (f.0, sum K LIVE H one (few_names K LIVE older rest) (length live) here i f.1)
      ]
    where
      sum : (K LIVE : ℕ) (H : List (List (X × ℕ))) → 1 ≤ K → All (λ names. length (values_of names) ≤ LIVE) H → (m : ℕ) → m ≤ LIVE → (i : ℕ) → i ≤ length (window K H) + m → i ≤ K * LIVE
      sum zero LIVE H one few m h i k = absurd (omega arith)
      sum (suc j) LIVE H one few m h i k =
          let z : suc j - 1 ≡ j = omega arith in
          let w : length (window (suc j) H) ≤ length (take (suc j - 1) H) * LIVE =
          length-flat_map_few (λ ns. values_of ns) (take (suc j - 1) H) LIVE (All-take (λ names. length (values_of names) ≤ LIVE) (suc j - 1) H few) in
          let l : length (take (suc j - 1) H) ≤ j = omega (arith, length-take (suc j - 1) H) in
          let p : length (take (suc j - 1) H) * LIVE ≤ j * LIVE = mul-le-mul_right LIVE l in
          omega arith
