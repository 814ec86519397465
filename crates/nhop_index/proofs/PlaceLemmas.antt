-- The places of indexes, and the targets listed by them.
use Rattle.std.proofs.Common.{◌≡◌, ◌≢◌, ℕ, zero, suc, ◌+◌, ◌-◌, ◌<◌, ◌≤◌, Bool, true, false, ◌||◌, ◌⊎◌, refl, sym, ◌∙◌, ap, subst, arith, inl, inr, Option, Some, None, List, [], ◌∷◌, ◌++◌, length, get_or, set, drop, map, max, replicate, append_assoc}
use Rattle.std.specs.Prelude.{◌==◌}
use Rattle.std.specs.List.{slice_get, list_any}
use Rattle.std.specs.Map.{lookup, values_of, keys_of}
use Rattle.std.specs.BTreeMap.{insert_entry, is_at}
use Rattle.std.specs.Option.{is_some, option_map}
use Rattle.std.specs.Ordering.{nat_cmp, is_eq, match_ordering}
use Rattle.std.specs.declared.cmp.Ordering.{Ordering}
use Rattle.std.specs.declared.cmp.Ordering.TheVariants.{Less, Equal, Greater}
use Rattle.std.proofs.lemmas.Bool.{cases_eq, cases_lt, eq-eqb, eqb-true, ne_eqb, lt-ltb, le-ltb, or_left, or_right, or_cases, false≢true}
use Rattle.std.proofs.lemmas.List.{get_or-set_same, get_or-set_other, get_or_default, drop_more, length-map, length-replicate, length-set, map-append}
use Rattle.std.proofs.lemmas.List.Folds.{list_any-append}
use Rattle.std.proofs.lemmas.Option.{slice_get_within, get_or_from_slice_get, slice_get-map}
use Rattle.std.proofs.Math.ListN.{drop_of_length-le}
use Rattle.nhop_index.specs.Indexes.{is_used, by_index, target_at}
use Rattle.nhop_index.specs.Table.{place_at, list_one, entry_at, listed, turned, ArePlaces, IsEnd, IsOrder, with_place}

-- comparing numbers
nat_less : (m n : ℕ) → m < n → nat_cmp m n ≡ Less
nat_less m n h = rw (lt-ltb m n h) refl

nat_more : (m n : ℕ) → n < m → nat_cmp m n ≡ Greater
nat_more m n h = rw (le-ltb m n (omega arith)) (rw (ne_eqb m n (λ e. absurd (omega arith))) refl)

nat_equal : (n : ℕ) → nat_cmp n n ≡ Equal
nat_equal n = rw (le-ltb n n (omega arith)) (rw (eq-eqb n n refl) refl)

-- there is an element at each place
some_within : {X : Type 0} (xs : List X) (p : ℕ) → p < length xs → (x : X) × (slice_get xs p ≡ Some x)
some_within [] p h = absurd (omega arith)
some_within (x ∷ xs) zero h = (x, refl)
some_within (x ∷ xs) (suc p) h = some_within xs p (omega arith)

-- an index in use
pub used_at : {X : Type 0} (names : List (X × ℕ)) (p : ℕ) (e : X × ℕ) → slice_get names p ≡ Some e → is_used (values_of names) e.1 ≡ true
used_at [] p e at = absurd (let h = at in cc)
used_at (n ∷ names) zero e at = let h : n ≡ e = cc in or_left (n.1 == e.1) _ (eq-eqb n.1 e.1 (ap (λ x. x.1) h))
used_at (n ∷ names) (suc p) e at = or_right (n.1 == e.1) _ (used_at names p e at)

-- ---- the list of the targets by their places
module _ {X : Type 0} (names : List (X × ℕ)) where
  pub listed_none : (n k : ℕ) → listed names (replicate n None) k ≡ []
  listed_none zero k = refl
  listed_none (suc n) k = listed_none n (suc k)

  -- no index before the first
  insert_before : (ps : List (Option ℕ)) (n k : ℕ) (t : X) → k < n → insert_entry nat_cmp (listed names ps n) k t ≡ (k, t) ∷ listed names ps n
  insert_before [] n k t h = refl
  insert_before (p ∷ ps) n k t h = go (entry_at names p) (insert_before ps (suc n) k t (omega arith))
    where
      go : (o : Option (X × ℕ)) → insert_entry nat_cmp (listed names ps (suc n)) k t ≡ (k, t) ∷ listed names ps (suc n)
          → insert_entry nat_cmp (list_one n o (listed names ps (suc n))) k t ≡ (k, t) ∷ list_one n o (listed names ps (suc n))
      go None ih = ih
      go (Some e) ih = rw (nat_less k n h) refl

  -- an index whose place is set
  pub listed_set : (ps : List (Option ℕ)) (n i p : ℕ) (e : X × ℕ) → i < length ps → slice_get names p ≡ Some e
      → listed names (set ps i (Some p)) n ≡ insert_entry nat_cmp (listed names ps n) (n + i) e.0
  listed_set [] n i p e h at = absurd (omega arith)
  listed_set (q ∷ ps) n zero p e h at =
      let z : n + 0 ≡ n = omega arith in
      ap (λ o. list_one n o (listed names ps (suc n))) at ∙ rw z (go (entry_at names q))
    where
      go : (o : Option (X × ℕ)) → (n, e.0) ∷ listed names ps (suc n) ≡ insert_entry nat_cmp (list_one n o (listed names ps (suc n))) n e.0
      go None = sym (insert_before ps (suc n) n e.0 (omega arith))
      go (Some f) = rw (nat_equal n) refl
  listed_set (q ∷ ps) n (suc i) p e h at =
      let z : n + suc i ≡ suc n + i = omega arith in
      rw z (ap (list_one n (entry_at names q)) (listed_set ps (suc n) i p e (omega arith) at) ∙ go (entry_at names q))
    where
      go : (o : Option (X × ℕ)) → list_one n o (insert_entry nat_cmp (listed names ps (suc n)) (suc n + i) e.0) ≡ insert_entry nat_cmp (list_one n o (listed names ps (suc n))) (suc n + i) e.0
      go None = refl
      go (Some f) = rw (nat_more (suc n + i) n (omega arith)) refl

  -- the target of an index, by its place
  lookup_before : (ps : List (Option ℕ)) (n k : ℕ) → k < n → lookup (is_at (nat_cmp k)) (listed names ps n) ≡ None
  lookup_before [] n k h = refl
  lookup_before (p ∷ ps) n k h = go (entry_at names p) (lookup_before ps (suc n) k (omega arith))
    where
      go : (o : Option (X × ℕ)) → lookup (is_at (nat_cmp k)) (listed names ps (suc n)) ≡ None → lookup (is_at (nat_cmp k)) (list_one n o (listed names ps (suc n))) ≡ None
      go None ih = ih
      go (Some e) ih = rw (nat_less k n h) ih

  pub lookup_listed : (ps : List (Option ℕ)) (n i : ℕ) → lookup (is_at (nat_cmp (n + i))) (listed names ps n) ≡ option_map (λ e. e.0) (entry_at names (place_at ps i))
  lookup_listed [] n i = refl
  lookup_listed (p ∷ ps) n zero = let z : n + 0 ≡ n = omega arith in rw z (go (entry_at names p))
    where
      go : (o : Option (X × ℕ)) → lookup (is_at (nat_cmp n)) (list_one n o (listed names ps (suc n))) ≡ option_map (λ e. e.0) o
      go None = lookup_before ps (suc n) n (omega arith)
      go (Some e) = rw (nat_equal n) refl
  lookup_listed (p ∷ ps) n (suc i) = let z : n + suc i ≡ suc n + i = omega arith in rw z (go (entry_at names p) ∙ lookup_listed ps (suc n) i)
    where
      go : (o : Option (X × ℕ)) → lookup (is_at (nat_cmp (suc n + i))) (list_one n o (listed names ps (suc n))) ≡ lookup (is_at (nat_cmp (suc n + i))) (listed names ps (suc n))
      go None = refl
      go (Some e) = rw (nat_more (suc n + i) n (omega arith)) refl

  pub target_by_place : (ps : List (Option ℕ)) (i : ℕ) → ArePlaces names ps → target_at names i ≡ option_map (λ e. e.0) (entry_at names (place_at ps i))
  target_by_place ps i is =
      let z : 0 + i ≡ i = omega arith in
      ap (lookup (is_at (nat_cmp i))) (sym is.listed_all) ∙ (rw z at (lookup_listed ps 0 i))

-- ---- all places, from the last entry on
pub record ArePlacesFrom {X : Type 0} (names : List (X × ℕ)) (places : List (Option ℕ)) (from : ℕ) : Type 0 where
  pub inside : from ≤ length names
  pub valid : (i p : ℕ) → place_at places i ≡ Some p → p < length names
  pub own : (i p : ℕ) (e : X × ℕ) → place_at places i ≡ Some p → slice_get names p ≡ Some e → e.1 ≡ i
  pub listed_from : listed names places 0 ≡ by_index (drop from names)
  pub used : (i : ℕ) → is_some (place_at places i) ≡ is_used (values_of (drop from names)) i
  pub ends : IsEnd (values_of names) (length places)

pub places_start : {X : Type 0} (names : List (X × ℕ)) (n : ℕ) → IsEnd (values_of names) n → ArePlacesFrom names (replicate n None) (length names)
places_start names n ends = record {
  inside = omega arith;
  valid = λ i p h. absurd (none_some (place_at (replicate n None) i) p (none_at n i) h);
  own = λ i p e h at. absurd (none_some (place_at (replicate n None) i) p (none_at n i) h);
  listed_from = listed_none names n 0 ∙ sym (ap by_index (drop_of_length-le names (omega arith)));
  used = λ i. ap is_some (none_at n i) ∙ sym (ap (λ es. is_used (values_of es) i) (drop_of_length-le names (omega arith)));
  ends = let l : length (replicate {A = Option ℕ} n None) ≡ n = length-replicate {A = Option ℕ} n None in rw l ends;
}
  where
    none_at : (n i : ℕ) → place_at (replicate n None) i ≡ None
    none_at zero i = refl
    none_at (suc n) zero = refl
    none_at (suc n) (suc i) = none_at n i

    none_some : (o : Option ℕ) (p : ℕ) → o ≡ None → o ≡ Some p → ⊥
    none_some o p n e = absurd (let d = sym n ∙ e in cc)

pub places_step : {X : Type 0} (names : List (X × ℕ)) (ps : List (Option ℕ)) (from : ℕ) (e : X × ℕ) → ArePlacesFrom names ps (from + 1) → slice_get names from ≡ Some e
    → ArePlacesFrom names (set ps e.1 (Some from)) from
places_step names ps from e is at = record {
  inside = omega (arith, is.inside);
  valid = λ i p h. elim (cases_eq i e.1) [
    | inl s ↦ (let k : from ≡ p = same_place i s p h in omega (arith, is.inside))
    | inr ne ↦ is.valid i p (sym (other i ne) ∙ h)
  ];
  own = λ i p f h here. elim (cases_eq i e.1) [
    | inl s ↦ (let k : from ≡ p = same_place i s p h in
        let g : Some e ≡ Some f = sym at ∙ ap (slice_get names) k ∙ here in
        let l : e ≡ f = cc in
        ap (λ x. x.1) (sym l) ∙ sym s)
    | inr ne ↦ is.own i p f (sym (other i ne) ∙ h) here
  ];
  listed_from = listed_set names ps 0 e.1 from e room at ∙ (let z : 0 + e.1 ≡ e.1 = omega arith in rw z (ap (λ es. insert_entry nat_cmp es e.1 e.0) is.listed_from)) ∙ sym (ap by_index split);
  used = λ i. elim (cases_eq i e.1) [
    | inl s ↦ ap is_some (here i s) ∙ sym (ap (λ es. is_used (values_of es) i) split ∙ or_left (e.1 == i) _ (eq-eqb e.1 i (sym s)))
    | inr ne ↦ ap is_some (other i ne) ∙ is.used i ∙ sym (ap (λ es. is_used (values_of es) i) split ∙ skip i ne)
  ];
  ends = let l = length-set ps e.1 (Some from) in rw l is.ends;
}
  where
    room : e.1 < length ps
    room = is.ends.above e.1 (used_at names from e at)

    within : from < length names
    within = slice_get_within names from e at

    split : drop from names ≡ e ∷ drop (from + 1) names
    split = drop_more names from e within ∙ ap (λ x. x ∷ drop (from + 1) names) (get_or_from_slice_get names from e e at)

    here : (i : ℕ) → i ≡ e.1 → place_at (set ps e.1 (Some from)) i ≡ Some from
    here i s = rw s (get_or-set_same ps e.1 (Some from) None room)

    other : (i : ℕ) → (i ≡ e.1 → ⊥) → place_at (set ps e.1 (Some from)) i ≡ place_at ps i
    other i ne = get_or-set_other ps e.1 i (Some from) None ne

    same_place : (i : ℕ) → i ≡ e.1 → (p : ℕ) → place_at (set ps e.1 (Some from)) i ≡ Some p → from ≡ p
    same_place i s p h = let k : Some from ≡ Some p = sym (here i s) ∙ h in cc

    skip : (i : ℕ) → (i ≡ e.1 → ⊥) → ((e.1 == i) || is_used (values_of (drop (from + 1) names)) i) ≡ is_used (values_of (drop (from + 1) names)) i
    skip i ne = rw (ne_eqb e.1 i (λ s. ne (sym s))) refl

pub places_done : {X : Type 0} (names : List (X × ℕ)) (ps : List (Option ℕ)) → ArePlacesFrom names ps 0 → ArePlaces names ps
places_done names ps is = record { valid = is.valid; own = is.own; listed_all = is.listed_from; used = is.used; ends = is.ends }

-- ---- the greatest index
pub end_start : IsEnd [] 0
end_start = record { above = λ i h. absurd (false≢true h); reached = λ h. absurd (omega arith) }

pub end_step : (indexes : List ℕ) (end x : ℕ) → IsEnd indexes end → IsEnd (indexes ++ x ∷ []) (max end (x + 1))
end_step indexes end x is = record {
  above = λ i h. elim (or_cases (is_used indexes i) (is_used (x ∷ []) i) (sym (both i) ∙ h)) [
    | inl a ↦ (let k = is.above i a in omega arith)
    | inr b ↦ (let k : x ≡ i = last i b in omega arith)
  ];
  reached = λ h. both (max end (x + 1) - 1) ∙ elim (cases_lt x end) [
    | inl lt ↦ (let e : max end (x + 1) - 1 ≡ end - 1 = omega arith in rw e (or_left _ _ (is.reached (omega arith))))
    | inr ge ↦ (let e : max end (x + 1) - 1 ≡ x = omega arith in rw e (or_right _ _ (or_left (x == x) false (eq-eqb x x refl))))
  ];
}
  where
    both : (i : ℕ) → is_used (indexes ++ x ∷ []) i ≡ (is_used indexes i || is_used (x ∷ []) i)
    both i = list_any-append (λ j. j == i) indexes (x ∷ [])

    last : (i : ℕ) → is_used (x ∷ []) i ≡ true → x ≡ i
    last i h = elim (or_cases (x == i) false h) [ inl a ↦ eqb-true x i a | inr b ↦ absurd (false≢true b) ]

-- ---- the order
module _ {X : Type 0} (names : List (X × ℕ)) where
  abbrev swapped : List (ℕ × X) → List (Option (X × ℕ))
  swapped es = map {B = Option (X × ℕ)} turned es

  abbrev stood : List ℕ → List (Option (X × ℕ))
  stood order = map {B = Option (X × ℕ)} (λ p. slice_get names p) order

  pub order_step : (ps : List (Option ℕ)) (i : ℕ) (p : Option ℕ) (order : List ℕ) → ArePlaces names ps → i < length ps → p ≡ get_or ps i p
      → map {B = Option (X × ℕ)} (λ p. slice_get names p) order ++ map {B = Option (X × ℕ)} turned (listed names (drop i ps) i) ≡ map {B = Option (X × ℕ)} turned (listed names ps 0)
      → map {B = Option (X × ℕ)} (λ p. slice_get names p) (with_place order p) ++ map {B = Option (X × ℕ)} turned (listed names (drop (i + 1) ps) (i + 1)) ≡ map {B = Option (X × ℕ)} turned (listed names ps 0)
  order_step ps i p order is inside here now = go p here (ap (λ es. stood order ++ swapped (listed names es i)) (sym split) ∙ now)
    where
      split : drop i ps ≡ p ∷ drop (i + 1) ps
      split = drop_more ps i p inside ∙ ap (λ x. x ∷ drop (i + 1) ps) (sym here)

      rest : List (Option (X × ℕ))
      rest = swapped (listed names (drop (i + 1) ps) (i + 1))

      at_place : (q : ℕ) → Some q ≡ get_or ps i (Some q) → place_at ps i ≡ Some q
      at_place q h = get_or_default ps i None (Some q) inside ∙ sym h

      found : (q : ℕ) (f : Option (X × ℕ)) → Some q ≡ get_or ps i (Some q) → slice_get names q ≡ f
          → stood order ++ swapped (list_one i f (listed names (drop (i + 1) ps) (suc i))) ≡ swapped (listed names ps 0)
          → stood (order ++ q ∷ []) ++ rest ≡ swapped (listed names ps 0)
      found q None h n k = absurd (let m = some_within names q (is.valid i q (at_place q h)) in let d = sym n ∙ m.1 in cc)
      found q (Some e) h n k =
          let own : e.1 ≡ i = is.own i q e (at_place q h) n in
          let pair : turned (i, e.0) ≡ Some e = ap (λ j. let o : Option (X × ℕ) = Some (e.0, j) in o) (sym own) in
          let z : suc i ≡ i + 1 = omega arith in
          ap (λ xs. xs ++ rest) (map-append (λ p. slice_get names p) order (q ∷ []))
          ∙ append_assoc (stood order) (slice_get names q ∷ []) rest
          ∙ ap (λ f. stood order ++ (f ∷ rest)) (n ∙ sym pair)
          ∙ (rw z at k)

      go : (o : Option ℕ) → o ≡ get_or ps i o → stood order ++ swapped (list_one i (entry_at names o) (listed names (drop (i + 1) ps) (suc i))) ≡ swapped (listed names ps 0)
          → stood (with_place order o) ++ rest ≡ swapped (listed names ps 0)
      go None h k = let e : suc i ≡ i + 1 = omega arith in rw e at k
      go (Some q) h k = found q (slice_get names q) h refl k

pub length-order : {X : Type 0} (names : List (X × ℕ)) (order : List ℕ) → IsOrder names order → length order ≡ length (by_index names)
length-order {X} names order is =
    sym (length-map order (λ p. slice_get names p)) ∙ ap length is ∙ length-map (by_index names) (turned {X = X})

-- the entry behind so many others
pub order_at : {X : Type 0} (names : List (X × ℕ)) (order : List ℕ) (i p : ℕ) → IsOrder names order → i < length (by_index names) → slice_get order i ≡ Some p
    → (b : ℕ × X) × (slice_get (by_index names) i ≡ Some b) × (slice_get names p ≡ Some (b.1, b.0))
order_at {X} names order i p is inside at =
    let b = some_within (by_index names) i inside in
    let left : slice_get (map {B = Option (X × ℕ)} (λ p. slice_get names p) order) i ≡ Some (slice_get names p) =
    slice_get-map (λ p. slice_get names p) order i ∙ ap (option_map (λ (p : ℕ). slice_get names p)) at in
    let right : slice_get (map {B = Option (X × ℕ)} turned (by_index names)) i ≡ Some (turned b.0) =
    slice_get-map (turned {X = X}) (by_index names) i ∙ ap (option_map (turned {X = X})) b.1 in
    let both : Some (slice_get names p) ≡ Some (turned b.0) = sym left ∙ ap (λ xs. slice_get xs i) is ∙ right in
    let one : slice_get names p ≡ turned b.0 = cc in
    (b.0, b.1, one)

length-insert_at : {X : Type 0} (es : List (ℕ × X)) (k : ℕ) (t : X) → length (insert_entry nat_cmp es k t) ≤ length es + 1
length-insert_at [] k t = omega arith
length-insert_at (e ∷ es) k t = go (nat_cmp k e.0) (length-insert_at es k t)
  where
    go : (o : Ordering) → length (insert_entry nat_cmp es k t) ≤ length es + 1 → length (match_ordering o ((k, t) ∷ e ∷ es) ((e.0, t) ∷ es) (e ∷ insert_entry nat_cmp es k t)) ≤ suc (length es) + 1
    go Less ih = omega arith
    go Equal ih = omega arith
    go Greater ih = omega arith

pub length-by_index : {X : Type 0} (names : List (X × ℕ)) → length (by_index names) ≤ length names
length-by_index [] = omega arith
length-by_index (e ∷ es) = let ih = length-by_index es in let h = length-insert_at (by_index es) e.1 e.0 in omega arith
