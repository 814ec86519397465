-- The targets that are named so far, and the indexes that are new.
use Rattle.std.proofs.Common.{◌≡◌, ℕ, zero, suc, ◌+◌, ◌-◌, ◌<◌, ◌≤◌, Bool, true, false, cond, not, refl, sym, ◌∙◌, ap, arith, inl, inr, Option, Some, None, List, [], ◌∷◌, ◌++◌, length, length-append, append_assoc, get_or, drop}
use Rattle.std.specs.Prelude.{All, ◌==◌}
use Rattle.std.specs.List.{filter, slice_get, AllByRecursion}
use Rattle.std.specs.List.Sorted.{IsStrictlyIncreasing, IsStrictlySortedBy}
use Rattle.std.specs.Map.{values_of, keys_of}
use Rattle.std.specs.Cmp.{IsTotalOrder}
use Rattle.std.specs.declared.cmp.Ordering.{Ordering}
use Rattle.std.specs.declared.cmp.Ordering.TheVariants.{Less, Equal, Greater}
use Rattle.std.proofs.Math.ListN.{drop_of_length-le, get_or-append}
use Rattle.std.proofs.Math.Seq.{get_or-append_seam}
use Rattle.std.proofs.lemmas.Bool.{cases_lt, both_ways, false_from_ne_true, or_right, not_from_true, not_from_false}
use Rattle.std.proofs.lemmas.List.{map-append, append-nil, drop_more}
use Rattle.std.proofs.lemmas.List.Elements.{filter-append, All-push, All-weaker}
use Rattle.std.proofs.lemmas.Map.Keys.{Less-from_sorted}
use Rattle.std.proofs.lemmas.Option.{slice_get_within, get_or_from_slice_get}
use Rattle.nhop_index.specs.Indexes.{is_used, index_in, named, name_and, least_unused, fresh_in}
use Rattle.nhop_index.specs.Merge.{ArePast, Covers}
use Rattle.nhop_index.proofs.LeastLemmas.{least_unused_is}
use Rattle.nhop_index.proofs.SearchLemmas.{flip}

module _ {X : Type 0} (cmp : X → X → Ordering) where
  -- one target more, with the index of the version before, or with a new one
  pub kept_step : (es before : List (X × ℕ)) (live rest : List X) (t : X) (x : ℕ) (v : List ℕ) (whole : List (X × ℕ)) → live ≡ t ∷ rest →
      index_in cmp before t ≡ Some x → es ++ named cmp before live v ≡ whole → (es ++ ((t, x) ∷ [])) ++ named cmp before rest v ≡ whole
  kept_step es before live rest t x v whole split found now =
      let h : es ++ name_and t (index_in cmp before t) v (named cmp before rest) ≡ whole = rw split at now in
      let k : es ++ ((t, x) ∷ named cmp before rest v) ≡ whole = rw found at h in
      append_assoc es ((t, x) ∷ []) (named cmp before rest v) ∙ k

  pub fresh_step : (es before : List (X × ℕ)) (live rest : List X) (t : X) (x : ℕ) (v : List ℕ) (whole : List (X × ℕ)) → live ≡ t ∷ rest →
      index_in cmp before t ≡ None → x ≡ least_unused v → es ++ named cmp before live v ≡ whole → (es ++ ((t, x) ∷ [])) ++ named cmp before rest (x ∷ v) ≡ whole
  fresh_step es before live rest t x v whole split found least now =
      let h : es ++ name_and t (index_in cmp before t) v (named cmp before rest) ≡ whole = rw split at now in
      let k : es ++ ((t, least_unused v) ∷ named cmp before rest (least_unused v ∷ v)) ≡ whole = rw found at h in
      append_assoc es ((t, x) ∷ []) (named cmp before rest (x ∷ v)) ∙ rw least k

  -- after the last target
  pub ends : (es before : List (X × ℕ)) (live : List X) (i : ℕ) (whole : List (X × ℕ)) (v : List ℕ) →
      es ++ named cmp before (drop i live) v ≡ whole → length live ≤ i → es ≡ whole
  ends es before live i whole v now past =
      let none : drop i live ≡ [] = drop_of_length-le live past in
      sym (append-nil es) ∙ (rw none at now)

  -- a later target is a greater one
  pub later_greater : IsTotalOrder cmp → (live : List X) (i k : ℕ) (t s : X) → IsStrictlySortedBy cmp live → i < k → t ≡ get_or live i t → slice_get live k ≡ Some s → cmp s t ≡ Greater
  later_greater total live i k t s up h here at =
      let within = slice_get_within live k s at in
      let less = Less-from_sorted cmp live i k t up h within in
      let a : get_or live i t ≡ t = sym here in
      let b : get_or live k t ≡ s = get_or_from_slice_get live k s t at in
      flip cmp total t s Less (rw (a, b) at less)

-- ---- the indexes that are new
pub inc_push : (xs : List ℕ) (y : ℕ) → IsStrictlyIncreasing xs → All (λ i. i < y) xs → IsStrictlyIncreasing (xs ++ (y ∷ []))
inc_push xs y inc below k h = elim (cases_lt (k + 1) (length xs)) [
  | inl lt ↦ (
      let a : k < length xs = omega arith in
      let e = get_or-append xs (y ∷ []) 0 k a in
      let f = get_or-append xs (y ∷ []) 0 (k + 1) lt in
      omega (arith, e, f, inc k lt))
  | inr ge ↦ (
      let len : length (xs ++ (y ∷ [])) ≡ length xs + 1 = length-append xs (y ∷ []) in
      let n : k + 1 ≡ length xs = omega arith in
      let a : k < length xs = omega arith in
      let e = get_or-append xs (y ∷ []) 0 k a in
      let f : get_or (xs ++ (y ∷ [])) (k + 1) 0 ≡ y = rw n (get_or-append_seam xs y [] 0) in
      omega (arith, e, f, below k 0 a))
]

pub rises_push : (xs : List ℕ) (x next more : ℕ) → IsStrictlyIncreasing xs × All (λ i. i < next) xs → next ≤ x → more ≡ x + 1 → IsStrictlyIncreasing (xs ++ (x ∷ [])) × All (λ i. i < more) (xs ++ (x ∷ []))
rises_push xs x next more now h e = (
  inc_push xs x now.0 (All-weaker (λ i. i < next) (λ i. i < x) (λ i k. omega arith) xs now.1),
  All-push (λ i. i < more) xs x (All-weaker (λ i. i < next) (λ i. i < more) (λ i k. omega arith) xs now.1) (omega arith),
)

module _ {X : Type 0} (before names : List (X × ℕ)) (t : X) (x : ℕ) where
  fresh_append : fresh_in before (names ++ ((t, x) ∷ [])) ≡ fresh_in before names ++ cond (not (is_used (values_of before) x)) (x ∷ []) []
  fresh_append = ap (filter (λ i. not (is_used (values_of before) i))) (map-append (λ e. e.1) names ((t, x) ∷ [])) ∙ filter-append (λ i. not (is_used (values_of before) i)) (values_of names) (x ∷ [])

  pub fresh_kept : (fs : List ℕ) → is_used (values_of before) x ≡ true → fs ≡ fresh_in before names → fs ≡ fresh_in before (names ++ ((t, x) ∷ []))
  fresh_kept fs used e = e ∙ sym (fresh_append ∙ ap (λ b. fresh_in before names ++ cond b (x ∷ []) []) (not_from_true _ used) ∙ append-nil (fresh_in before names))

  pub fresh_more : (fs : List ℕ) → is_used (values_of before) x ≡ false → fs ≡ fresh_in before names → fs ++ (x ∷ []) ≡ fresh_in before (names ++ ((t, x) ∷ []))
  fresh_more fs free e = ap (λ ys. ys ++ (x ∷ [])) e ∙ sym (fresh_append ∙ ap (λ b. fresh_in before names ++ cond b (x ∷ []) []) (not_from_false _ free))

-- an index that is unused isn't one of the version before
pub new_free : {X : Type 0} (before : List (X × ℕ)) (v : List ℕ) (x : ℕ) → Covers v before → x ≡ least_unused v → is_used (values_of before) x ≡ false
new_free before v x covers e = false_from_ne_true _ (λ t. both_ways _ (rw (← e) at (least_unused_is v).free) (covers x t))

pub covers_more : {X : Type 0} (before : List (X × ℕ)) (v : List ℕ) (x : ℕ) → Covers v before → Covers (x ∷ v) before
covers_more before v x covers i h = or_right _ _ (covers i h)
