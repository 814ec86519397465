-- A target that a version has, and the version before had, keeps its index, and what each row leads to has one.
use Rattle.std.proofs.Common.{◌≡◌, ◌∙◌, ℕ, ◌≤◌, Bool, true, false, cond, List, [], ◌∷◌, Option, Some, None, All, refl, sym, ap, subst, arith, inl, inr}
use Rattle.std.specs.Prelude.{unwrap_or, Contains, IsSome}
use Rattle.std.specs.Cmp.{IsTotalOrder}
use Rattle.std.specs.Ordering.{is_eq}
use Rattle.std.specs.declared.cmp.Ordering.{Ordering}
use Rattle.std.specs.Map.{keys_of, values_of}
use Rattle.std.specs.BTreeMap.{is_at}
use Rattle.std.proofs.lemmas.Bool.{cases_Bool, false≢true}
use Rattle.std.proofs.lemmas.List.Elements.{All-nil, All-cons, All-head, All-tail, All-weaker}
use Rattle.std.proofs.lemmas.Cmp.{eq_by_cmp_equiv}
use Rattle.std.proofs.lemmas.Map.Views.{IsSome-lookup_from_Contains}
use Rattle.counted_map.proofs.CountMapLemmas.{eq_from_is_eq}
use Rattle.prefix_width.specs.Limits.{last_index}
use Rattle.nhgrp_slots.specs.PathList.{IsPathList}
use Rattle.nhgrp_slots.specs.Target.{target_cmp, target_of}
use Rattle.nhgrp_slots.specs.declared.target.Target.{Target}
use Rattle.nhgrp_slots.proofs.TargetOrder.{target_total}
use Rattle.nhop_index.specs.Book.{AreIndexes, Naming as IndexNaming}
use Rattle.nhop_index.specs.Indexes.{least_unused, name_and, index_in, named, newest, window, next_names}
use Rattle.nhop_index.proofs.LeastLemmas.{least_unused_is}
use Rattle.nhop_index.proofs.VersionLemmas.{keys-named}
use Rattle.rib_store.specs.Targets.{live, LeadToLive}
use Rattle.rib_store.specs.Table.{Table}
use Rattle.rib_store.proofs.TargetLemmas.{rows_lead}
use Rattle.fib_edits.specs.Named.{number_in, AreNamed, Keeps}
use Rattle.fib_edits.specs.Laws.{IndexesAreKept, RowsAreNamed}

none_some : (i : ℕ) (x : Option ℕ) → x ≡ None → x ≡ Some i → ⊥
none_some i x n e = absurd (let d = sym n ∙ e in cc)

some_is : (i j : ℕ) → Some i ≡ Some j → j ≡ i
some_is i j e = sym (ap (λ x. unwrap_or x 0) e)

some_number : (x : Option ℕ) → 1 ≤ unwrap_or x 0 → x ≡ Some (unwrap_or x 0)
some_number None h = absurd (omega (arith, h))
some_number (Some i) h = refl

module _ {X : Type 0} (cmp : X → X → Ordering) (total : IsTotalOrder cmp) where
  -- what compares equal has one index
  index_congr : (t x : X) → is_at (cmp t) x ≡ true → (names : List (X × ℕ)) → index_in cmp names t ≡ index_in cmp names x
  index_congr t x e [] = refl
  index_congr t x e (n ∷ names) =
      ap (λ c. cond (is_eq c) (Some n.1) (index_in cmp names t)) (total.congr t x n.0 (eq_from_is_eq (cmp t x) e))
      ∙ ap (cond (is_at (cmp x) n.0) (Some n.1)) (index_congr t x e names)

  pub keeps_index : (before : List (X × ℕ)) (targets : List X) (used : List ℕ) (t : X) (i j : ℕ) → index_in cmp before t ≡ Some i → index_in cmp (named cmp before targets used) t ≡ Some j → j ≡ i
  keeps_index before [] used t i j was now = absurd (none_some j None refl now)
  keeps_index before (x ∷ targets) used t i j was now = by (index_in cmp before x) refl now (λ u. keeps_index before targets u t i j was)
    where
      by : (found : Option ℕ) → index_in cmp before x ≡ found → index_in cmp (name_and x found used (named cmp before targets)) t ≡ Some j
          → ((u : List ℕ) → index_in cmp (named cmp before targets u) t ≡ Some j → j ≡ i) → j ≡ i
      by (Some k) h is rest = elim (cases_Bool (is_at (cmp t) x)) [
        | inl e ↦ some_is i j (sym was ∙ index_congr t x e before ∙ h ∙ sym (ap (λ b. cond b (Some k) (index_in cmp (named cmp before targets used) t)) e) ∙ is)
        | inr e ↦ rest used (sym (ap (λ b. cond b (Some k) (index_in cmp (named cmp before targets used) t)) e) ∙ is)
      ]
      by None h is rest = elim (cases_Bool (is_at (cmp t) x)) [
        | inl e ↦ absurd (none_some i (index_in cmp before t) (index_congr t x e before ∙ h) was)
        | inr e ↦ rest (least_unused used ∷ used) (sym (ap (λ b. cond b (Some (least_unused used)) (index_in cmp (named cmp before targets (least_unused used ∷ used)) t)) e) ∙ is)
      ]

  -- an index that is found among indexes of 1 or more is one
  found_one : (names : List (X × ℕ)) → All (λ e. 1 ≤ e.1) names → (t : X) (i : ℕ) → index_in cmp names t ≡ Some i → 1 ≤ i
  found_one [] all t i e = absurd (none_some i None refl e)
  found_one (n ∷ names) all t i e = by (is_at (cmp t) n.0) e (found_one names (All-tail (λ e. 1 ≤ e.1) n names all) t i)
    where
      by : (b : Bool) → cond b (Some n.1) (index_in cmp names t) ≡ Some i → (index_in cmp names t ≡ Some i → 1 ≤ i) → 1 ≤ i
      by true h rest = subst (λ k. 1 ≤ k) (sym (some_is n.1 i h)) (All-head (λ e. 1 ≤ e.1) n names all)
      by false h rest = rest h

  -- each index of the next version is 1 or more
  pub positive_named : (before : List (X × ℕ)) → All (λ e. 1 ≤ e.1) before → (targets : List X) (used : List ℕ) → All (λ e. 1 ≤ e.1) (named cmp before targets used)
  positive_named before all [] used = All-nil (λ e. 1 ≤ e.1)
  positive_named before all (x ∷ targets) used = by (index_in cmp before x) refl (λ u. positive_named before all targets u)
    where
      by : (found : Option ℕ) → index_in cmp before x ≡ found → ((u : List ℕ) → All (λ e. 1 ≤ e.1) (named cmp before targets u)) → All (λ e. 1 ≤ e.1) (name_and x found used (named cmp before targets))
      by (Some k) h rest = All-cons (λ e. 1 ≤ e.1) (x, k) (named cmp before targets used) (found_one before all x k h) (rest used)
      by None h rest =
          All-cons (λ e. 1 ≤ e.1) (x, least_unused used) (named cmp before targets (least_unused used ∷ used)) (least_unused_is used).low (rest (least_unused used ∷ used))

  -- what is among the targets has an index of 1 or more
  one_or_more : (names : List (X × ℕ)) → All (λ e. 1 ≤ e.1) names → (t : X) → Contains (keys_of names) t → 1 ≤ unwrap_or (index_in cmp names t) 0
  one_or_more names all t has = by (index_in cmp names t) refl (IsSome-lookup_from_Contains (eq_by_cmp_equiv total) t names has)
    where
      by : (o : Option ℕ) → index_in cmp names t ≡ o → IsSome o → 1 ≤ unwrap_or o 0
      by None h some = absurd (false≢true some)
      by (Some i) h some = found_one names all t i h

-- ---- the definition of indexes, for targets

pub indexes_are_kept : (w : ℕ) → IndexesAreKept w
indexes_are_kept w before targets used paths one two =
    keeps_index (target_cmp {w = w}) target_total before targets used (target_of paths) (number_in before paths) (number_in (named target_cmp before targets used) paths)
    (some_number (index_in target_cmp before (target_of paths)) one)
    (some_number (index_in target_cmp (named target_cmp before targets used) (target_of paths)) two)

-- rows that lead to targets, each of which has an index, have indexes
pub are_named : (w : ℕ) (names : List (Target w × ℕ)) (targets : List (Target w)) (rows : Table) → keys_of names ≡ targets → All (λ e. 1 ≤ e.1) names → LeadToLive targets rows → AreNamed (number_in names) rows
are_named w names targets rows keys all lead =
    All-weaker (λ paths. Contains targets (target_of {w = w} paths)) (λ paths. 1 ≤ number_in names paths)
    (λ paths has. one_or_more (target_cmp {w = w}) target_total names all (target_of {w = w} paths) (subst (λ ts. Contains ts (target_of {w = w} paths)) (sym keys) has))
    (values_of rows) lead

-- the same of a version's indexes, as the book gives them
pub indexes_named : (w K LIVE : ℕ) (n : IndexNaming w) (targets : List (Target w)) (rows : Table) → AreIndexes K LIVE n → keys_of n.names ≡ targets → LeadToLive targets rows → AreNamed (number_in n.names) rows
indexes_named w K LIVE n targets rows are keys lead =
    are_named w n.names targets rows keys (All-weaker (λ e. (1 ≤ e.1) × (e.1 ≤ last_index K LIVE)) (λ e. 1 ≤ e.1) (λ e both. both.0) n.names are.range) lead

pub rows_are_named : (w : ℕ) → RowsAreNamed w
rows_are_named w before rows used all lists =
    are_named w (named target_cmp before (live {w = w} rows) used) (live {w = w} rows) rows (keys-named (target_cmp {w = w}) before (live {w = w} rows) used)
    (positive_named (target_cmp {w = w}) target_total before all (live {w = w} rows) used)
    (rows_lead w rows lists)

-- ---- the next version's indexes

module _ (w : ℕ) (before : List (Target w × ℕ)) (used : List ℕ) (names : List (Target w × ℕ)) where
  pub keeps_named : (targets : List (Target w)) → names ≡ named target_cmp before targets used → Keeps (number_in before) (number_in names)
  keeps_named targets is paths one two =
      subst (λ n. 1 ≤ number_in n paths → number_in n paths ≡ number_in before paths) (sym is) (indexes_are_kept w before targets used paths one) two

  pub rows_named : (rows : Table) → All (λ e. 1 ≤ e.1) before → All (λ s. IsPathList s.paths) (values_of rows) → names ≡ named target_cmp before (live {w = w} rows) used → AreNamed (number_in names) rows
  rows_named rows all lists is = subst (λ n. AreNamed (number_in n) rows) (sym is) (rows_are_named w before rows used all lists)

module _ (w K : ℕ) (versions : List (List (Target w × ℕ))) (names : List (Target w × ℕ)) where
  pub keeps_next : (targets : List (Target w)) → names ≡ next_names target_cmp K versions targets → Keeps (number_in (newest versions)) (number_in names)
  keeps_next targets is = keeps_named w (newest versions) (window K versions) names targets is

  pub named_next : (rows : Table) → All (λ e. 1 ≤ e.1) (newest versions) → All (λ s. IsPathList s.paths) (values_of rows) → names ≡ next_names target_cmp K versions (live {w = w} rows) → AreNamed (number_in names) rows
  named_next rows all lists is = rows_named w (newest versions) (window K versions) names rows all lists is

  pub positive_next : (targets : List (Target w)) → All (λ e. 1 ≤ e.1) (newest versions) → names ≡ next_names target_cmp K versions targets → All (λ e. 1 ≤ e.1) names
  positive_next targets all is = subst (All (λ e. 1 ≤ e.1)) (sym is) (positive_named (target_cmp {w = w}) target_total (newest versions) all targets (window K versions))
