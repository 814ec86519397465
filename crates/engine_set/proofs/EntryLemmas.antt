-- Entries by their index, and their places.
use Rattle.std.proofs.Common.{◌≡◌, ◌≢◌, ◌==◌, nat_lt, ℕ, zero, suc, ◌+◌, ◌-◌, ◌<◌, ◌≤◌, Bool, true, false, cond, List, [], ◌∷◌, length, map, replicate, Option, Some, None, refl, sym, ap, ◌∙◌, subst, arith, get_or, inl, inr}
use Rattle.std.specs.Prelude.{slice_get, IsSome, All, option_map, option_and_then}
use Rattle.std.specs.List.{AllByRecursion}
use Rattle.std.specs.Map.{values_of}
use Rattle.std.proofs.Math.ListN.{set}
use Rattle.std.proofs.lemmas.Bool.{cases_eq, cases_lt, false≢true}
use Rattle.std.proofs.lemmas.Bool.Decides.{nat_tests}
use Rattle.std.proofs.lemmas.List.{length-set, get_or-set_same, get_or-set_other}
use Rattle.std.proofs.lemmas.List.Elements.{All-get_or, All-head, All-replicate, All-tail}
use Rattle.std.proofs.lemmas.Option.{none-some, same_Some, slice_get-map, slice_get_within, slice_get-get_or, get_or_from_slice_get}
use Rattle.prefix_width.specs.Prefix.{Block, contains}
use Rattle.prefix_width.specs.Longest.{longest, longer, only_if_in}
use Rattle.module_trait.specs.Rows.{index_of}
use Rattle.std.specs.List.Sorted.{IsStrictlyIncreasing, IsStrictlySortedBy}
use Rattle.std.specs.Ordering.{nat_cmp}
use Rattle.std.proofs.lemmas.Map.Keys.{below_from_sorted, sorted_from_strictly_increasing, sorted_tail}
use Rattle.engine_set.specs.declared.entry.Entry.{Entry}
use Rattle.engine_set.specs.declared.entry.Entry.TheVariants.{Nexthop, Group}
use Rattle.engine_set.specs.declared.entry.Place.{Place}
use Rattle.engine_set.specs.declared.entry.Place.TheVariants as place
use Rattle.engine_set.specs.Entry.{entry_index, entry_at, through, resolved, HasNexthops, ArePlacedTo, ArePlaced, AreOfEntries, place_at, place_for, place_number}

all_get : {X : Type 0} (P : X → Type 0) (xs : List X) (k : ℕ) (x : X) → All P xs → slice_get xs k ≡ Some x → P x
all_get P xs k x all h = subst P (get_or_from_slice_get xs k x x h) (All-get_or P xs k x (slice_get_within xs k x h) all)

-- an entry that is found has a place and that index
pub place_of : (es : List Entry) (i : ℕ) (e : Entry) → entry_at es i ≡ Some e → (k : ℕ) × (slice_get es k ≡ Some e) × (entry_index e ≡ i)
place_of [] i e h = absurd (none-some e h)
place_of (x ∷ es) i e h = go (entry_index x == i) refl h (place_of es i e)
  where
    go : (b : Bool) → (entry_index x == i) ≡ b → cond b (Some x) (entry_at es i) ≡ Some e → (entry_at es i ≡ Some e → (k : ℕ) × (slice_get es k ≡ Some e) × (entry_index e ≡ i)) → (k : ℕ) × (slice_get (x ∷ es) k ≡ Some e) × (entry_index e ≡ i)
    go true t h ih =
        let same : x ≡ e = same_Some x e h in
        let index : entry_index x ≡ i = grind (arith, nat_tests) in
        (0, h, ap entry_index (sym same) ∙ index)
    go false t h ih = let r = ih h in (suc r.0, r.1, r.2)

-- the index of an entry by its place
index_at : (es : List Entry) (k : ℕ) (e : Entry) → slice_get es k ≡ Some e → slice_get (map entry_index es) k ≡ Some (entry_index e)
index_at es k e h = slice_get-map entry_index es k ∙ ap (option_map entry_index) h

up_between : (xs : List ℕ) (j k x y : ℕ) → IsStrictlyIncreasing xs → j < k → slice_get xs j ≡ Some x → slice_get xs k ≡ Some y → x < y
up_between xs j k x y up h hx hy =
    let less = below_from_sorted xs j k 0 (sorted_from_strictly_increasing xs up) h (slice_get_within xs k y hy) in
    omega (arith, less, get_or_from_slice_get xs j x 0 hx, get_or_from_slice_get xs k y 0 hy)

up_from : (xs : List ℕ) (k x : ℕ) → IsStrictlyIncreasing xs → slice_get xs k ≡ Some x → k ≤ x
up_from [] k x up h = absurd (none-some x h)
up_from (z ∷ xs) zero x up h = omega arith
up_from (z ∷ xs) (suc k) x up h = go k h (up_from (z ∷ xs) k)
  where
    go : (n : ℕ) → slice_get xs n ≡ Some x → ((y : ℕ) → IsStrictlyIncreasing (z ∷ xs) → slice_get (z ∷ xs) n ≡ Some y → n ≤ y) → suc n ≤ x
    go n at ih =
        let within : n < length (z ∷ xs) = (let w = slice_get_within xs n x at in omega arith) in
        let there = slice_get-get_or (z ∷ xs) n 0 within in
        let low = ih (get_or (z ∷ xs) n 0) up there in
        let l = up_between (z ∷ xs) n (suc n) (get_or (z ∷ xs) n 0) x up (omega arith) there at in
        omega arith

-- a place is no greater than its entry's index
pub place_fits : (es : List Entry) (k : ℕ) (e : Entry) → IsStrictlyIncreasing (map entry_index es) → slice_get es k ≡ Some e → k ≤ entry_index e
place_fits es k e up h = up_from (map entry_index es) k (entry_index e) up (index_at es k e h)

-- the last entry has the greatest index
pub last_greatest : (es : List Entry) (k : ℕ) (e l : Entry) → IsStrictlyIncreasing (map entry_index es) → slice_get es k ≡ Some e → slice_get es (length es - 1) ≡ Some l → entry_index e ≤ entry_index l
last_greatest es k e l up he hl =
    let within = slice_get_within es k e he in
    elim (cases_lt k (length es - 1)) [
      | inl before ↦ let r = up_between (map entry_index es) k (length es - 1) (entry_index e) (entry_index l) up before (index_at es k e he) (index_at es (length es - 1) l hl) in omega arith
      | inr last ↦
          let at : k ≡ length es - 1 = omega arith in
          let same : e ≡ l = same_Some e l (sym he ∙ ap (slice_get es) at ∙ hl) in
          let i : entry_index e ≡ entry_index l = ap entry_index same in
          omega arith
    ]

-- one entry more has its place at its index
pub placed_more : (es : List Entry) (places : List Place) (k : ℕ) (e : Entry) → IsStrictlyIncreasing (map entry_index es) → slice_get es k ≡ Some e → entry_index e < length places → ArePlacedTo es places k → ArePlacedTo es (set places (entry_index e) (place_for e k)) (k + 1)
placed_more es places k e up at fits before j f low hf =
    let written = set places (entry_index e) (place_for e k) in
    let len = length-set places (entry_index e) (place_for e k) in
    elim (cases_lt j k) [
      | inl less ↦
          let d = up_between (map entry_index es) j k (entry_index f) (entry_index e) up less (index_at es j f hf) (index_at es k e at) in
          let old = before j f less hf in
          let within = slice_get_within places (entry_index f) (place_for f j) old in
          slice_get-get_or written (entry_index f) place.Vacant (omega arith)
          ∙ ap (λ p. Some p) (get_or-set_other places (entry_index e) (entry_index f) (place_for e k) place.Vacant (λ same. absurd (omega arith)) ∙ get_or_from_slice_get places (entry_index f) (place_for f j) place.Vacant old)
      | inr more ↦
          let here : j ≡ k = omega arith in
          let same : f ≡ e = same_Some f e (sym hf ∙ ap (slice_get es) here ∙ at) in
          ap (λ g. slice_get written (entry_index g)) same
          ∙ slice_get-get_or written (entry_index e) place.Vacant (omega arith)
          ∙ ap (λ p. Some p) (get_or-set_same places (entry_index e) (place_for e k) place.Vacant fits ∙ sym (ap (λ n. place_for e n) here) ∙ ap (λ g. place_for g j) (sym same))
    ]

place_number-for : (e : Entry) (k : ℕ) → place_number (place_for e k) ≡ Some k
place_number-for (Nexthop n) k = refl
place_number-for (Group n slots) k = refl

-- an entry is found by its index, or one before it
entry_there : (es : List Entry) (k : ℕ) (e : Entry) → slice_get es k ≡ Some e → IsSome (entry_at es (entry_index e))
entry_there [] k e h = absurd (none-some e h)
entry_there (x ∷ xs) zero e h =
    let same : entry_index x ≡ entry_index e = ap entry_index (same_Some x e h) in
    let test : (entry_index x == entry_index e) ≡ true = grind (arith, nat_tests) in
    subst (λ b. IsSome (cond b (Some x) (entry_at xs (entry_index e)))) (sym test) refl
entry_there (x ∷ xs) (suc k) e h =
    let later = entry_there xs k e h in
    elim (entry_index x == entry_index e) as (λ b. IsSome (cond b (Some x) (entry_at xs (entry_index e)))) [ true ↦ refl | false ↦ later ]

-- a write leaves what stands elsewhere
slice_get-set_other : {X : Type 0} (xs : List X) (i j : ℕ) (x : X) → j ≢ i → slice_get (set xs i x) j ≡ slice_get xs j
slice_get-set_other [] i j x other = refl
slice_get-set_other (y ∷ ys) zero zero x other = absurd (other refl)
slice_get-set_other (y ∷ ys) zero (suc j) x other = refl
slice_get-set_other (y ∷ ys) (suc i) zero x other = refl
slice_get-set_other (y ∷ ys) (suc i) (suc j) x other = slice_get-set_other ys i j x (λ same. other (ap suc same))

-- one place more is that of an entry of its index
pub only_more : (es : List Entry) (places : List Place) (k : ℕ) (e : Entry) → slice_get es k ≡ Some e → AreOfEntries es places → AreOfEntries es (set places (entry_index e) (place_for e k))
only_more es places k e at before i j h =
    elim (cases_eq i (entry_index e)) [
      | inl here ↦ subst (λ n. IsSome (entry_at es n)) (sym here) (entry_there es k e at)
      | inr other ↦ before i j (ap (option_and_then place_number) (sym (slice_get-set_other places (entry_index e) i (place_for e k) other)) ∙ h)
    ]

-- places that are all vacant are nobody's
pub only_vacant : (es : List Entry) (n : ℕ) → AreOfEntries es (replicate n place.Vacant)
only_vacant es n i k h = go (slice_get (replicate n place.Vacant) i) refl h
  where
    go : (o : Option Place) → slice_get (replicate n place.Vacant) i ≡ o → option_and_then place_number o ≡ Some k → IsSome (entry_at es i)
    go None at h = absurd (none-some k h)
    go (Some p) at h =
        let vacant : p ≡ place.Vacant = all_get (λ q. q ≡ place.Vacant) (replicate n place.Vacant) i p (All-replicate (λ q. q ≡ place.Vacant) n place.Vacant refl) at in
        absurd (none-some k (sym (ap place_number vacant) ∙ h))

-- what is known of an index that has an entry: the entry, and its place
pub record IsPlaced (es : List Entry) (places : List Place) (i : ℕ) : Type 0 where
  pub place : ℕ
  pub entry : Entry
  pub found : entry_at es i ≡ Some entry
  pub at : slice_get es place ≡ Some entry
  pub placed : slice_get places i ≡ Some (place_for entry place)

some_of : {X : Type 0} (o : Option X) → IsSome o → (x : X) × (o ≡ Some x)
some_of None is = absurd (false≢true is)
some_of (Some x) is = (x, refl)

pub entry_placed : (es : List Entry) (places : List Place) (i : ℕ) → ArePlacedTo es places (length es) → IsSome (entry_at es i) → IsPlaced es places i
entry_placed es places i placed there =
    let e = some_of (entry_at es i) there in
    let k = place_of es i e.0 e.1 in
    record {
      place = k.0;
      entry = e.0;
      found = e.1;
      at = k.1;
      placed = subst (λ n. slice_get places n ≡ Some (place_for e.0 k.0)) k.2 (placed k.0 e.0 (slice_get_within es k.0 e.0 k.1) k.1);
    }

place_for-group : (e : Entry) (j k : ℕ) → place_for e j ≡ place.Group k → j ≡ k
place_for-group (Nexthop n) j k h = cc
place_for-group (Group n slots) j k h = cc

-- the entry of an index whose place is a group's stands there
pub group_at : (es : List Entry) (places : List Place) (i k : ℕ) (p : IsPlaced es places i) → slice_get places i ≡ Some (place.Group k) → slice_get es k ≡ Some p.entry
group_at es places i k p read =
    let same : place_for p.entry p.place ≡ place.Group k = same_Some _ _ (sym p.placed ∙ read) in
    ap (slice_get es) (sym (place_for-group p.entry p.place k same)) ∙ p.at

place_for-nexthop : (e : Entry) (j k : ℕ) → place_for e j ≡ place.Nexthop k → e ≡ Nexthop (entry_index e)
place_for-nexthop (Nexthop n) j k h = refl
place_for-nexthop (Group n slots) j k h = cc

-- the entry of an index whose place is a nexthop's is that nexthop's
pub nexthop_at : (es : List Entry) (places : List Place) (i k : ℕ) (p : IsPlaced es places i) → slice_get places i ≡ Some (place.Nexthop k) → p.entry ≡ Nexthop i
nexthop_at es places i k p read =
    let same : place_for p.entry p.place ≡ place.Nexthop k = same_Some _ _ (sym p.placed ∙ read) in
    place_for-nexthop p.entry p.place k same ∙ ap (λ n. Nexthop n) (place_of es i p.entry p.found).2

place_for-vacant : (e : Entry) (j : ℕ) → place_for e j ≡ place.Vacant → ⊥
place_for-vacant (Nexthop n) j h = cc
place_for-vacant (Group n slots) j h = cc

-- the place of an index that has an entry is not vacant
pub not_vacant : (es : List Entry) (places : List Place) (i : ℕ) (p : IsPlaced es places i) → slice_get places i ≡ Some place.Vacant → ⊥
not_vacant es places i p read = place_for-vacant p.entry p.place (same_Some _ _ (sym p.placed ∙ read))

-- an index without a place has no entry
pub none_at : (es : List Entry) (places : List Place) (i : ℕ) → ArePlaced es places → place_at places i ≡ None → entry_at es i ≡ None
none_at es places i is h = go (entry_at es i) refl
  where
    go : (o : Option Entry) → entry_at es i ≡ o → entry_at es i ≡ None
    go None found = found
    go (Some e) found =
        let p = entry_placed es places i is.placed (subst IsSome (sym found) refl) in
        absurd (none-some p.place (sym h ∙ ap (option_and_then place_number) p.placed ∙ place_number-for p.entry p.place))

-- the entry of an index stands at its place
pub some_at : (es : List Entry) (places : List Place) (i k : ℕ) → ArePlaced es places → place_at places i ≡ Some k → (e : Entry) × (slice_get es k ≡ Some e) × (entry_at es i ≡ Some e)
some_at es places i k is h =
    let p = entry_placed es places i is.placed (is.only i k h) in
    let same : p.place ≡ k = same_Some _ _ (sym (ap (option_and_then place_number) p.placed ∙ place_number-for p.entry p.place) ∙ h) in
    (p.entry, ap (slice_get es) (sym same) ∙ p.at, p.found)

-- the place that is read for an index that has an entry
pub place_read : (es : List Entry) (places read : List Place) (i from : ℕ) (x : Place) (p : IsPlaced es places i) → read ≡ places → from ≡ i → get_or read from place.Vacant ≡ x → slice_get places i ≡ Some x
place_read es places read i from x p same at h =
    slice_get-get_or places i place.Vacant (slice_get_within places i _ p.placed)
    ∙ ap (λ q. Some q) (ap (λ ps. get_or ps i place.Vacant) (sym same) ∙ ap (λ n. get_or read n place.Vacant) (sym at) ∙ h)

-- the entry that is read at a place
pub entry_read : (es read : List Entry) (k from : ℕ) (x e : Entry) → read ≡ es → from ≡ k → slice_get es k ≡ Some x → e ≡ get_or read from e → e ≡ x
entry_read es read k from x e same at found h =
    h ∙ ap (λ xs. get_or xs from e) same ∙ ap (λ n. get_or es n e) at ∙ get_or_from_slice_get es k x e found

-- an index leads to a nexthop's
pub leads : (es : List Entry) (i flow r : ℕ) → All (HasNexthops es) es → resolved es flow (Some i) ≡ Some r → entry_at es r ≡ Some (Nexthop r)
leads es i flow r all h = of (entry_at es i) refl h
  where
    go : (f : Entry) → entry_at es i ≡ Some f → entry_index f ≡ i → HasNexthops es f → through flow f ≡ Some r → entry_at es r ≡ Some (Nexthop r)
    go (Nexthop n) found is has h =
        let same : n ≡ r = same_Some n r h in
        ap (entry_at es) (sym same ∙ is) ∙ found ∙ ap (λ m. Some (Nexthop m)) same
    go (Group n slots) found is has h = all_get (λ m. entry_at es m ≡ Some (Nexthop m)) slots _ r has h

    of : (o : Option Entry) → entry_at es i ≡ o → option_and_then (through flow) o ≡ Some r → entry_at es r ≡ Some (Nexthop r)
    of None found h = absurd (none-some r h)
    of (Some f) found h = let k = place_of es i f found in go f found k.2 (all_get (HasNexthops es) es k.0 f all k.1) h

-- what holds of each row's index holds of the longest one's
abbrev OfIndex : (ℕ → Type 0) → Option (Block × ℕ) → Type 0
OfIndex P None = Unit {0}
OfIndex P (Some row) = P row.1

of_longer : (P : ℕ → Type 0) (x y : Option (Block × ℕ)) → OfIndex P x → OfIndex P y → OfIndex P (longer x y)
of_longer P None y hx hy = hy
of_longer P (Some r) None hx hy = hx
of_longer P (Some r) (Some s) hx hy = elim (nat_lt r.0.len s.0.len) as (λ b. OfIndex P (cond b (Some s) (Some r))) [ true ↦ hy | false ↦ hx ]

of_longest : (P : ℕ → Type 0) (w : ℕ) (rows : List (Block × ℕ)) (a : ℕ) → All P (values_of rows) → OfIndex P (longest w rows a)
of_longest P w [] a all = tt
of_longest P w (r ∷ rows) a all =
    let first = All-head P r.1 (values_of rows) all in
    of_longer P (only_if_in w a r) (longest w rows a)
    (elim (contains w r.0 a) as (λ b. OfIndex P (cond b (Some r) None)) [ true ↦ first | false ↦ tt ])
    (of_longest P w rows a (All-tail P r.1 (values_of rows) all))

-- the longest row's index has an entry
pub longest_named : (es : List Entry) (w : ℕ) (rows : List (Block × ℕ)) (a i : ℕ) → All (λ n. IsSome (entry_at es n)) (values_of rows) → Some i ≡ index_of (longest w rows a) → IsSome (entry_at es i)
longest_named es w rows a i all h = go (longest w rows a) (of_longest (λ n. IsSome (entry_at es n)) w rows a all) h
  where
    go : (o : Option (Block × ℕ)) → OfIndex (λ n. IsSome (entry_at es n)) o → Some i ≡ index_of o → IsSome (entry_at es i)
    go None has h = absurd (none-some i (sym h))
    go (Some row) has h = subst (λ n. IsSome (entry_at es n)) (sym (same_Some i row.1 h)) has

-- an entry that ascends with the others is found by its index
pub entry_by_index : (es : List Entry) (k : ℕ) (e : Entry) → IsStrictlyIncreasing (map entry_index es) → slice_get es k ≡ Some e → entry_at es (entry_index e) ≡ Some e
entry_by_index es k e up at = first es k e (sorted_from_strictly_increasing (map entry_index es) up) at
  where
    first : (es : List Entry) (k : ℕ) (e : Entry) → IsStrictlySortedBy nat_cmp (map entry_index es) → slice_get es k ≡ Some e → entry_at es (entry_index e) ≡ Some e
    first [] k e sorted at = absurd (none-some e at)
    first (x ∷ es) zero e sorted at =
        let same : entry_index x ≡ entry_index e = ap entry_index (same_Some x e at) in
        let test : (entry_index x == entry_index e) ≡ true = grind (arith, nat_tests) in
        rw test at
    first (x ∷ es) (suc k) e sorted at =
        let there = index_at es k e at in
        let within = slice_get_within (map entry_index es) k (entry_index e) there in
        let less : entry_index x < get_or (map entry_index es) k 0 = below_from_sorted (map entry_index (x ∷ es)) 0 (suc k) 0 sorted (omega arith) (omega arith) in
        let above : entry_index x < entry_index e = omega (arith, less, get_or_from_slice_get (map entry_index es) k (entry_index e) 0 there) in
        let test : (entry_index x == entry_index e) ≡ false = grind (arith, nat_tests) in
        rw test (first es k e (sorted_tail nat_cmp (entry_index x) (map entry_index es) sorted) at)
