-- A book of indexes against the list of all versions.
use Rattle.std.proofs.Common.{◌≡◌, ℕ, zero, suc, ◌+◌, ◌-◌, ◌*◌, ◌<◌, ◌≤◌, ◌⊎◌, true, false, not, refl, sym, ◌∙◌, ap, subst, arith, max, inl, inr, Option, Some, None, List, [], ◌∷◌, length, take}
use Rattle.std.specs.Prelude.{All, ◌==◌}
use Rattle.std.specs.List.{flat_map, filter, slice_get, AllByRecursion}
use Rattle.std.specs.List.Sorted.{IsStrictlySortedBy, IsStrictlyIncreasing}
use Rattle.std.specs.Map.{keys_of, values_of}
use Rattle.std.specs.Cmp.{IsTotalOrder}
use Rattle.std.specs.declared.cmp.Ordering.{Ordering}
use Rattle.std.specs.declared.cmp.Ordering.TheVariants.{Less, Equal}
use Rattle.std.proofs.lemmas.Bool.{eqb-true, false≢true, not_from_true, or_left, or_cases}
use Rattle.std.proofs.lemmas.Cmp.{tied_itself}
use Rattle.std.proofs.lemmas.List.{drop_more}
use Rattle.std.proofs.lemmas.List.Folds.{list_any-append}
use Rattle.std.proofs.lemmas.List.Elements.{All-cons}
use Rattle.std.proofs.lemmas.Map.Entries.{length-keys_of, length-values_of}
use Rattle.prefix_width.specs.Limits.{last_index}
use Rattle.nhgrp_slots.specs.Target.{target_cmp}
use Rattle.nhgrp_slots.specs.declared.target.Target.{Target}
use Rattle.nhgrp_slots.proofs.TargetOrder.{target_total, target_exact}
use Rattle.nhop_index.specs.Ages.{AreAged, AreAgesOf, Walks}
use Rattle.nhop_index.specs.Book.{Naming, AreIndexes, Memory, Remembers, IsBook}
use Rattle.nhop_index.specs.Indexes.{is_used, index_in, named, name_and, newest, window, next_names, all_names, fresh_in}
use Rattle.nhop_index.specs.Laws.{IsNamed}
use Rattle.nhop_index.specs.Merge.{Covers}
use Rattle.nhop_index.specs.Table.{IsEnd}
use Rattle.nhop_index.proofs.AgeLemmas.{ages_next, walk_start}
use Rattle.nhop_index.proofs.LawLemmas.{fit_newest}
use Rattle.nhop_index.proofs.PlaceLemmas.{used_at}
use Rattle.nhop_index.proofs.SearchLemmas.{hit}
use Rattle.nhop_index.proofs.VersionLemmas.{keys-named, once, small}

pub sorted_none : {w : ℕ} (names : List (Target w × ℕ)) → names ≡ [] → IsStrictlySortedBy target_cmp (keys_of names)
unfolding IsStrictlySortedBy
sorted_none names e = rw e tt

-- ---- where all targets stay
suffix_same : {X : Type 0} (cmp : X → X → Ordering) (before es : List (X × ℕ)) (u : List ℕ) → ((p : ℕ) (e : X × ℕ) → slice_get es p ≡ Some e → index_in cmp before e.0 ≡ Some e.1) → named cmp before (keys_of es) u ≡ es
suffix_same cmp before [] u each = refl
suffix_same {X} cmp before (e ∷ es) u each =
    let ih = suffix_same cmp before es u (λ p f at. each (suc p) f at) in
    ap (λ (o : Option ℕ). name_and e.0 o u (named cmp before (keys_of es))) (each 0 e refl) ∙ ap (λ (fs : List (X × ℕ)). (e.0, e.1) ∷ fs) ih

pub named_same : {w : ℕ} (before : List (Target w × ℕ)) (live : List (Target w)) (u : List ℕ) → IsStrictlySortedBy target_cmp (keys_of before) → keys_of before ≡ live → before ≡ named target_cmp before live u
named_same {w} before live u up same =
    sym (ap (λ ts. named (target_cmp {w = w}) before ts u) (sym same)
    ∙ suffix_same (target_cmp {w = w}) before before u (λ p e at. hit (target_cmp {w = w}) target_total target_exact before e.0 p e up at (tied_itself (target_total {w = w}) e.0)))

fresh_among : {X : Type 0} (before es : List (X × ℕ)) → ((p : ℕ) (e : X × ℕ) → slice_get es p ≡ Some e → is_used (values_of before) e.1 ≡ true) → fresh_in before es ≡ []
fresh_among before [] each = refl
fresh_among before (e ∷ es) each = rw (not_from_true _ (each 0 e refl)) (fresh_among before es (λ p f at. each (suc p) f at))

pub fresh_none : {X : Type 0} (names : List (X × ℕ)) → [] ≡ fresh_in names names
fresh_none names = sym (fresh_among names names (λ p e at. used_at names p e at))

-- ---- the indexes that a book keeps are those of its last version and more
pub covers_newest : {X : Type 0} (K : ℕ) (versions : List (List (X × ℕ))) → 2 ≤ K → Covers (window K versions) (newest versions)
covers_newest K [] two i h = absurd (false≢true h)
covers_newest K (v ∷ vs) two i h = go (K - 1) (omega arith)
  where
    go : (n : ℕ) → 1 ≤ n → is_used (flat_map (λ ns. values_of ns) (take n (v ∷ vs))) i ≡ true
    go zero a = absurd (omega arith)
    go (suc n) a = list_any-append (λ j. j == i) (values_of v) (flat_map (λ ns. values_of ns) (take n vs)) ∙ or_left _ _ h

named_used : {X : Type 0} (names : List (X × ℕ)) (i : ℕ) → is_used (values_of names) i ≡ true → (t : X) × IsNamed t i names
named_used [] i h = absurd (false≢true h)
named_used {X} (e ∷ es) i h = go (or_cases (e.1 == i) (is_used (values_of es) i) h) (λ k. named_used es i k)
  where
    go : ((e.1 == i) ≡ true) ⊎ (is_used (values_of es) i ≡ true) → (is_used (values_of es) i ≡ true → (t : X) × IsNamed t i es) → (t : X) × IsNamed t i (e ∷ es)
    go (inl a) ih = (e.0, inl (ap (λ j. let p : X × ℕ = (e.0, j) in p) (eqb-true e.1 i a)))
    go (inr b) ih = let r = ih b in (r.0, inr r.1)

-- ---- the next version of a book
module _ {w : ℕ} (K LIVE : ℕ) (m : Memory w) (book : IsBook K LIVE m) (live : List (Target w)) where
  pub walks : Walks K (window K (all_names target_cmp K book.lives)) m.ages 1
  walks = walk_start K (all_names target_cmp K book.lives) m.ages (omega (arith, book.banks.0)) book.remembers.ages

  pub covers : Covers (window K (all_names target_cmp K book.lives)) m.last
  covers = subst (Covers (window K (all_names target_cmp K book.lives))) (sym book.remembers.last) (covers_newest K (all_names target_cmp K book.lives) book.banks.0)

  -- what one walk over the live targets names, and what of it is new
  pub names_by : (before : List (Target w × ℕ)) (ages : List ℕ) (names : List (Target w × ℕ)) → before ≡ m.last → ages ≡ m.ages
      → ((used : List ℕ) → Walks K used ages 1 → names ≡ named target_cmp before live used)
      → (versions : List (List (Target w × ℕ))) → Remembers K versions m → names ≡ next_names target_cmp K versions live
  names_by before ages names last aged by versions is =
      by (window K versions) (subst (λ a. Walks K (window K versions) a 1) (sym aged) (walk_start K versions m.ages (omega (arith, book.banks.0)) is.ages))
      ∙ ap (λ ns. named target_cmp ns live (window K versions)) (last ∙ is.last)

  pub fresh_by : (before : List (Target w × ℕ)) (ages : List ℕ) (names : List (Target w × ℕ)) (fresh : List ℕ) → before ≡ m.last → ages ≡ m.ages
      → ((used : List ℕ) → Walks K used ages 1 → Covers used before → fresh ≡ fresh_in before names) → fresh ≡ fresh_in m.last names
  fresh_by before ages names fresh last aged by =
      let used = window K (all_names (target_cmp {w = w}) K book.lives) in
      by used (subst (λ a. Walks K used a 1) (sym aged) walks) (subst (Covers used) (sym last) covers) ∙ ap (λ ns. fresh_in ns names) last

  pub names_keys : (names : List (Target w × ℕ)) → ((versions : List (List (Target w × ℕ))) → Remembers K versions m → names ≡ next_names target_cmp K versions live) → keys_of names ≡ live
  names_keys names is =
      let H = all_names (target_cmp {w = w}) K book.lives in
      ap (λ ns. keys_of ns) (is H book.remembers) ∙ keys-named (target_cmp {w = w}) (newest H) live (window K H)

  pub next_is : (names : List (Target w × ℕ)) → ((versions : List (List (Target w × ℕ))) → Remembers K versions m → names ≡ next_names target_cmp K versions live)
      → (new : Memory w) → new.last ≡ names → AreAged names m.ages new.ages
      → (versions : List (List (Target w × ℕ))) → Remembers K versions m → (names ≡ next_names target_cmp K versions live) × Remembers K (names ∷ versions) new
  next_is names is new last aged versions remembers = (
    is versions remembers,
    record { last = last; ages = ages_next K versions names m.ages new.ages book.banks.1 remembers.ages aged },
  )

  module _ (few : length live ≤ LIVE) (up : IsStrictlySortedBy target_cmp live) (names : List (Target w × ℕ))
      (is : (versions : List (List (Target w × ℕ))) → Remembers K versions m → names ≡ next_names target_cmp K versions live) where
    all_few : All (λ ts. length ts ≤ LIVE) (live ∷ book.lives)
    all_few = All-cons (λ ts. length ts ≤ LIVE) live book.lives few book.few

    newest_is : names ≡ newest (all_names target_cmp K (live ∷ book.lives))
    newest_is = is (all_names target_cmp K book.lives) book.remembers

    at_newest : slice_get (all_names target_cmp K (live ∷ book.lives)) 0 ≡ Some names
    at_newest = ap (λ (ns : List (Target w × ℕ)). Some ns) (sym newest_is)

    pub indexes_are : (fresh : List ℕ) → IsStrictlyIncreasing fresh → AreIndexes K LIVE (let n : Naming w = record { names = names; fresh = fresh } in n)
    indexes_are fresh ascend = record {
      banks = book.banks;
      targets = book.targets;
      sorted = subst (IsStrictlySortedBy target_cmp) (sym (names_keys names is)) up;
      few = let l : length (keys_of names) ≡ length names = length-keys_of names in let k : length (keys_of names) ≡ length live = ap (λ ts. length ts) (names_keys names is) in omega arith;
      range = fit_newest K LIVE (live ∷ book.lives) (omega (arith, book.banks.0)) all_few 0 names at_newest;
      one_to_one = λ t s i a b. once (target_cmp {w = w}) target_exact K (live ∷ book.lives) t s i book.banks.0 (subst (IsNamed t i) newest_is a) (subst (IsNamed s i) newest_is b);
      ascend = ascend;
    }

    -- the table of ages has room for the indexes up to the greatest
    room_for : (old new end : ℕ) → old ≤ K * LIVE + 1 → IsEnd (values_of names) end → new ≤ max old end → new ≤ K * LIVE + 1
    room_for old new zero h ends grown = omega arith
    room_for old new (suc end) h ends grown =
        let last : is_used (values_of names) end ≡ true = (let e : suc end - 1 ≡ end = omega arith in rw e at (ends.reached (omega arith))) in
        let t = named_used names end last in
        let s = small (target_cmp {w = w}) target_exact K LIVE (live ∷ book.lives) 0 names t.0 end (omega (arith, book.banks.0)) all_few at_newest t.1 in
        omega (arith, s.1)

    pub book_next : (new : Memory w) → new.last ≡ names → AreAged names m.ages new.ages → (end : ℕ) → IsEnd (values_of names) end → length new.ages ≤ max (length m.ages) end → IsBook K LIVE new
    book_next new last aged end ends grown = record {
      banks = book.banks;
      targets = book.targets;
      lives = live ∷ book.lives;
      few = all_few;
      remembers = subst (λ ns. Remembers K (ns ∷ all_names target_cmp K book.lives) new) newest_is (next_is names is new last aged (all_names target_cmp K book.lives) book.remembers).1;
      room = room_for (length m.ages) (length new.ages) end book.room ends grown;
    }
