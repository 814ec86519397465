-- Searches in a version's targets: by halves, and along the live targets.
use Rattle.std.proofs.Common.{◌≡◌, ℕ, ◌+◌, ◌<◌, ◌≤◌, ◌⊎◌, refl, sym, ◌∙◌, ap, arith, inl, inr, Option, Some, None, List, [], ◌∷◌, length, get_or}
use Rattle.std.specs.List.{slice_get}
use Rattle.std.specs.List.Sorted.{IsStrictlySortedBy, IsNonDecreasingBy, IsBinarySearchResult, IsSearchInRange}
use Rattle.std.specs.Map.{keys_of, lookup}
use Rattle.std.specs.BTreeMap.{is_at}
use Rattle.std.specs.Cmp.{IsTotalOrder}
use Rattle.std.specs.Ordering.{ordering_reverse, ordering_index, is_eq}
use Rattle.std.specs.declared.cmp.Ordering.{Ordering}
use Rattle.std.specs.declared.cmp.Ordering.TheVariants.{Less, Equal, Greater}
use Rattle.std.specs.declared.result.Result.{Result}
use Rattle.std.specs.declared.result.Result.TheVariants.{Ok, Err}
use Rattle.std.proofs.lemmas.Bool.{cases_lt, cases_eq}
use Rattle.std.proofs.lemmas.Cmp.{eq_by_cmp_equiv}
use Rattle.std.proofs.lemmas.List.{get_or-map}
use Rattle.std.proofs.lemmas.Map.Entries.{lookup_at_gap, lookup_from_place, length-keys_of}
use Rattle.std.proofs.lemmas.Map.Keys.{Less-from_sorted, IsDistinct-from_sorted, sorted_from_all_adjacent}
use Rattle.std.proofs.lemmas.Option.{slice_get-get_or, slice_get_within, get_or_from_slice_get}
use Rattle.nhop_index.specs.Indexes.{index_in}
use Rattle.nhop_index.specs.Merge.{ArePast}
use Rattle.nhop_index.specs.Table.{index_at}

-- the element at a place
pub item_at : {X : Type 0} (xs : List X) (i : ℕ) (x : X) → i < length xs → x ≡ get_or xs i x → slice_get xs i ≡ Some x
item_at {X} xs i x inside is = slice_get-get_or xs i x inside ∙ ap (λ (y : X). Some y) (sym is)

module _ {X : Type 0} (cmp : X → X → Ordering) (total : IsTotalOrder cmp) where
  pub flip : (x y : X) (o : Ordering) → cmp x y ≡ o → cmp y x ≡ ordering_reverse o
  flip x y o h = total.antisymm y x ∙ ap ordering_reverse h

  -- an earlier element is no greater than a later one by any third
  below : (x y t : X) → cmp x y ≡ Less → ordering_index (cmp x t) ≤ ordering_index (cmp y t)
  below x y t up = go (cmp x t) refl
    where
      go : (o : Ordering) → cmp x t ≡ o → ordering_index o ≤ ordering_index (cmp y t)
      go Less h = omega arith
      go Equal h =
          let e : cmp t y ≡ Less = sym (total.congr x t y h) ∙ up in
          rw (flip t y Less e) (omega arith)
      go Greater h =
          let e : cmp t y ≡ Less = total.trans t x y (flip x t Greater h) up in
          rw (flip t y Less e) (omega arith)

  key_at : (names : List (X × ℕ)) (i : ℕ) (d : X × ℕ) → i < length names → get_or (keys_of names) i d.0 ≡ (get_or names i d).0
  key_at names i d inside = get_or-map (λ (e : X × ℕ). e.0) names i d d.0 inside

  less_at : (names : List (X × ℕ)) (i j : ℕ) (d : X × ℕ) → IsStrictlySortedBy cmp (keys_of names) → i < j → j < length names → cmp (get_or names i d).0 (get_or names j d).0 ≡ Less
  less_at names i j d up h inside =
      let l = length-keys_of names in
      let less = Less-from_sorted cmp (keys_of names) i j d.0 up h (omega arith) in
      let a = key_at names i d (omega arith) in
      let b = key_at names j d inside in
      rw (a, b) at less

  rises : (t : X) (names : List (X × ℕ)) → IsStrictlySortedBy cmp (keys_of names) → IsNonDecreasingBy (λ e. ordering_index (cmp e.0 t)) names
  rises t names up i j d h inside = elim (cases_lt i j) [
    | inl lt ↦ below (get_or names i d).0 (get_or names j d).0 t (less_at names i j d up lt inside)
    | inr ge ↦ (let e : i ≡ j = omega arith in rw e (omega arith))
  ]

  -- an entry of the target itself
  pub hit : (same : (x y : X) → cmp x y ≡ Equal → x ≡ y) (names : List (X × ℕ)) (t : X) (p : ℕ) (e : X × ℕ) → IsStrictlySortedBy cmp (keys_of names) → slice_get names p ≡ Some e → cmp e.0 t ≡ Equal
      → index_in cmp names t ≡ Some e.1
  hit same names t p e up at h =
      let k : e.0 ≡ t = same e.0 t h in
      let found = lookup_from_place (eq_by_cmp_equiv total) names p e.0 e.1 (IsDistinct-from_sorted cmp (keys_of names) up) at in
      ap (λ x. index_in cmp names x) (sym k) ∙ found

  -- lesser targets, and then a greater one
  pub gap : (names : List (X × ℕ)) (t : X) (p : ℕ) → IsStrictlySortedBy cmp (keys_of names) → ArePast cmp names p t
      → ((e : X × ℕ) → slice_get names p ≡ Some e → cmp e.0 t ≡ Greater) → index_in cmp names t ≡ None
  gap names t p up past next = lookup_at_gap total t names p up past (λ e at. flip e.0 t Greater (next e at))

  pub past_step : (names : List (X × ℕ)) (p : ℕ) (t : X) (e : X × ℕ) → ArePast cmp names p t → slice_get names p ≡ Some e → cmp t e.0 ≡ Greater → ArePast cmp names (p + 1) t
  past_step names p t e past at h j f below here = elim (cases_eq j p) [
    | inl s ↦ (let g : Some e ≡ Some f = sym at ∙ ap (slice_get names) (sym s) ∙ here in
        let k : e ≡ f = cc in rw k at h)
    | inr ne ↦ past j f (omega arith) here
  ]

  pub past_later : (names : List (X × ℕ)) (p : ℕ) (s t : X) → ArePast cmp names p s → cmp t s ≡ Greater → ArePast cmp names p t
  past_later names p s t past h j f below here =
      let a = flip t s Greater h in
      let b = flip s f.0 Greater (past j f below here) in
      flip f.0 t Less (total.trans f.0 s t b a)

  pub past_here : (names : List (X × ℕ)) (p : ℕ) (s t : X) (e : X × ℕ) → ArePast cmp names p s → slice_get names p ≡ Some e → cmp e.0 s ≡ Equal → cmp t s ≡ Greater → ArePast cmp names (p + 1) t
  past_here names p s t e past at h later =
      past_step names p t e (past_later names p s t past later) at (flip e.0 t Less (total.congr e.0 s t h ∙ flip t s Greater later))

  -- what a search by halves finds
  pub found_at : (same : (x y : X) → cmp x y ≡ Equal → x ≡ y) (names : List (X × ℕ)) (t : X) (r : Result ℕ ℕ) → IsStrictlySortedBy cmp (keys_of names)
      → IsSearchInRange r (length names) → IsBinarySearchResult (λ e. cmp e.0 t) names r → index_at names r ≡ index_in cmp names t
  found_at same [] t (Ok p) up inside is = absurd (omega (arith, inside))
  found_at same (d ∷ names) t (Ok p) up inside is =
      let at = slice_get-get_or (d ∷ names) p d inside in
      ap (λ o. option_index o) at ∙ sym (hit same (d ∷ names) t p (get_or (d ∷ names) p d) up at (is d))
    where
      option_index : Option (X × ℕ) → Option ℕ
      option_index None = None
      option_index (Some e) = Some e.1
  found_at same names t (Err p) up inside is =
      let point = is (rises t names up) in
      sym (gap names t p up
      (λ j e h at. flip e.0 t Less (ap (λ x. cmp x.0 t) (sym (get_or_from_slice_get names j e e at)) ∙ point.0 j e (omega arith) h))
      (λ e at. ap (λ x. cmp x.0 t) (sym (get_or_from_slice_get names p e e at)) ∙ point.1 p e (omega arith) (slice_get_within names p e at)))

-- where each is less than the next
pub sorted_from_steps : {X : Type 0} (cmp : X → X → Ordering) → IsTotalOrder cmp → (xs : List X)
    → ((k : ℕ) (d : X) → k + 1 < length xs → cmp (get_or xs k d) (get_or xs (k + 1) d) ≡ Less) → IsStrictlySortedBy cmp xs
unfolding IsStrictlySortedBy
sorted_from_steps cmp total [] each = tt
sorted_from_steps cmp total (x ∷ xs) each = sorted_from_all_adjacent total (x ∷ xs) x (λ k h. each k x h)
