-- What the indexes of a plan's versions are: each of the live targets of the version has one, and keeps it.
use Rattle.std.proofs.Common.{◌≡◌, ℕ, zero, suc, ◌+◌, ◌≤◌, Bool, true, not, List, [], ◌∷◌, Option, Some, None, refl, sym, ap, ◌∙◌, subst, arith, add-one, inl, inr}
use Rattle.std.specs.Prelude.{All, Contains, IsSome, slice_get}
use Rattle.std.specs.Cmp.{eq_by_cmp_equiv}
use Rattle.std.specs.List.Sorted.{IsStrictlySortedBy}
use Rattle.std.specs.Map.{keys_of, values_of}
use Rattle.std.specs.Option.{is_some, unwrap_or}
use Rattle.std.proofs.lemmas.Bool.{false≢true}
use Rattle.std.proofs.lemmas.List.Elements.{All-head, All-tail, All-nil}
use Rattle.std.proofs.lemmas.Map.Views.{IsSome-lookup_from_Contains}
use Rattle.std.proofs.lemmas.Option.{slice_get_within, get_or_from_slice_get}
use Rattle.prefix_width.specs.Nexthop.{Hop}
use Rattle.nhgrp_slots.specs.Spread.{hops}
use Rattle.nhgrp_slots.specs.Target.{target_cmp, target_of}
use Rattle.nhgrp_slots.specs.declared.target.Target.{Target}
use Rattle.nhgrp_slots.specs.declared.target.Target.TheVariants.{One, Many}
use Rattle.nhgrp_slots.proofs.TargetOrder.{target_total, target_exact}
use Rattle.nhop_index.specs.Indexes.{all_names, index_in, named, newest, next_names, target_at, window}
use Rattle.nhop_index.specs.Laws.{IsNamed, IsOneToOne}
use Rattle.nhop_index.proofs.VersionLemmas.{found, keys-named, once}
use Rattle.rib_store.specs.Plan.{Planned}
use Rattle.rib_store.specs.Table.{Table}
use Rattle.rib_store.specs.Targets.{AreClosed, HasHops, LeadToLive, live}
use Rattle.rib_store.proofs.RowLemmas.{tables_are_in_order}
use Rattle.rib_store.proofs.TargetLemmas.{live_ascends, live_closed, rows_lead}
use Rattle.rib_store.specs.Table.{table_after}
use Rattle.plan_cut.specs.Course.{Course}
use Rattle.plan_cut.specs.PlanCourse.{course_of, versions_of}
use Rattle.plan_cut.specs.VersionTable.{commands_at, commands_of, table_at}
use Rattle.plan_cut.specs.Versions.{Version, latest}
use Rattle.plan_cut.proofs.ListingLemmas.{get-versions-latest, latest-zero}
use Rattle.prefix_width.specs.declared.module.Kind.TheVariants.{Range}
use Rattle.nhop_index.specs.Book.{Memory, Naming, Remembers}
use Rattle.fib_sync.specs.Naming.{AreNamesAt, HasGiven, IsNext}
use Rattle.fib_sync.specs.declared.numbering.Numbering.{Numbering}
use Rattle.fib_edits.specs.Named.{AreNamed, Keeps, indexed, number_in}
use Rattle.fib_edits.proofs.NameLemmas.{are_named, keeps_named, positive_named}
use Rattle.fib_sync.specs.Entries.{IsClosed, KeepIndexes}
use Rattle.fib_sync.specs.Lawful.{AreIndexed}
use Rattle.fib_sync.specs.VersionNames.{lives_to, names_at, naming_at}
use Rattle.fib_sync.proofs.IndexLemmas.{at_named, kept_index, named_at, only_index}

-- ---- a list of targets with their indexes
at_place : {X : Type 0} (P : X → Type 0) (xs : List X) (k : ℕ) (x : X) → All P xs → slice_get xs k ≡ Some x → P x
at_place P xs k x all at = subst P (get_or_from_slice_get xs k x x at) (all k x (slice_get_within xs k x at))

pub none_from : {X : Type 0} (o : Option X) (b : Bool) → is_some o ≡ not b → b ≡ true → o ≡ None
none_from None b is holds = refl
none_from (Some x) b is holds = absurd (false≢true (sym (is ∙ ap not holds)))

module _ {w : ℕ} (names : List (Target w × ℕ)) where
  -- what holds of all targets holds of one that is named
  of_named : (P : Target w → Type 0) (t : Target w) (i : ℕ) → All P (keys_of names) → IsNamed t i names → P t
  of_named P t i all h = go names all h
    where
      go : (ns : List (Target w × ℕ)) → All P (keys_of ns) → IsNamed t i ns → P t
      go [] all h = elim h [ ]
      go (n ∷ ns) all (inl h) = subst P (ap (λ (x : Target w × ℕ). x.0) h) (All-head P n.0 (keys_of ns) all)
      go (n ∷ ns) all (inr h) = go ns (All-tail P n.0 (keys_of ns) all) h

  -- a target that is listed is at its index
  listed_at : IsOneToOne names → (t : Target w) → Contains (keys_of names) t → (j : ℕ) × (index_in target_cmp names t ≡ Some j) × (target_at names j ≡ Some t)
  listed_at one t has = by (index_in target_cmp names t) refl (IsSome-lookup_from_Contains (eq_by_cmp_equiv (target_total {w = w})) t names has)
    where
      by : (o : Option ℕ) → index_in target_cmp names t ≡ o → IsSome o → (j : ℕ) × (index_in target_cmp names t ≡ Some j) × (target_at names j ≡ Some t)
      by None e some = absurd (false≢true some)
      by (Some j) e some = (j, e, named_at names t j one (found (target_cmp {w = w}) target_exact names t j e))

  pub closed_in : IsOneToOne names → AreClosed (keys_of names) → IsClosed (target_at names)
  closed_in one closed i paths at k h there =
      let hops_in : HasHops (keys_of names) (Many paths) = of_named (HasHops (keys_of names)) (Many paths) i closed (at_named names i (Many paths) at) in
      let found_at = listed_at one (One h) (at_place (λ (g : Hop). Contains (keys_of names) (One g)) (hops paths) k h hops_in there) in
      (found_at.0, found_at.2)

  pub kept_in : (before : List (Target w × ℕ)) (targets : List (Target w)) (used : List ℕ) → IsStrictlySortedBy target_cmp (keys_of before) → names ≡ named target_cmp before targets used → KeepIndexes (target_at before) (target_at names)
  kept_in before targets used up is i j t was now =
      sym (kept_index (target_cmp {w = w}) target_total target_exact before targets used t j i
      (subst (IsNamed t j) is (at_named names j t now))
      (only_index (target_cmp {w = w}) target_total target_exact before t i up (at_named before i t was)))

  pub indexed_in : IsOneToOne names → (table : Table) → All (λ paths. Contains (keys_of names) (target_of paths)) (values_of table) → AreIndexed (target_at names) table (indexed (number_in names) table)
  indexed_in one [] all = tt
  indexed_in one (row ∷ rows) all =
      let has = All-head (λ paths. Contains (keys_of names) (target_of paths)) row.1 (values_of rows) all in
      let rest = All-tail (λ paths. Contains (keys_of names) (target_of paths)) row.1 (values_of rows) all in
      let at = listed_at one (target_of row.1) has in
      let number : number_in names row.1 ≡ at.0 = ap (λ (o : Option ℕ). unwrap_or o 0) at.1 in
      ((refl, ap (target_at names) number ∙ at.2), indexed_in one rows rest)

-- ---- the indexes of a version
module _ {w : ℕ} (K most : ℕ) (plan : Planned w) where
  -- the names of the versions up to the next one
  pub names_next : (v : ℕ) → all_names (target_cmp {w = w}) K (lives_to most plan (v + 1))
      ≡ next_names target_cmp K (all_names target_cmp K (lives_to most plan v)) (live (table_at most plan (v + 1))) ∷ all_names target_cmp K (lives_to most plan v)
  unfolding lives_to
  names_next v = rw add-one refl

  -- the indexes of a version are given after those of the version before
  pub record IsAfter (v : ℕ) (before : List (Target w × ℕ)) : Type 0 where
    pub used : List ℕ
    pub names : naming_at K most plan v ≡ named target_cmp before (live (table_at most plan v)) used

  pub first_names : IsAfter 0 []
  unfolding lives_to
  first_names = record { used = window K []; names = refl }

  pub later_names : (v : ℕ) → IsAfter (v + 1) (naming_at K most plan v)
  later_names v = record {
    used = window K (all_names target_cmp K (lives_to most plan v));
    names = ap newest (names_next v);
  }

  -- version 0 has the empty table
  pub first_table : table_at most plan 0 ≡ []
  first_table =
      let course : Course = course_of most plan in
      let zero_at : latest course 0 ≡ record { number = 0; count = 0; kind = Range } = latest-zero course in
      let at : slice_get (versions_of most plan) 0 ≡ Some (latest course 0) = subst (λ n. slice_get (versions_of most plan) n ≡ Some (latest course 0)) (ap (λ (v : Version). v.number) zero_at) (get-versions-latest course 0 (omega arith)) in
      ap (λ (o : Option Version). table_after most plan (commands_of o)) at ∙ ap (λ (v : Version). table_after most plan v.count) zero_at

  first_all : all_names (target_cmp {w = w}) K (lives_to most plan 0) ≡ next_names (target_cmp {w = w}) K [] [] ∷ []
  unfolding lives_to
  first_all = ap (λ (t : Table). next_names (target_cmp {w = w}) K [] (live t) ∷ []) first_table

  -- the book has given the indexes of version 0
  pub given_first : (names : List (Target w × ℕ)) (book : Memory w) → names ≡ next_names target_cmp K [] [] → Remembers K (names ∷ []) book → (names ≡ naming_at K most plan 0) × HasGiven K most plan 0 book
  given_first names book is has = (
    is ∙ ap newest (sym first_all),
    subst (λ ns. Remembers K ns book) (ap (λ n. n ∷ []) is ∙ sym first_all) has,
  )

  -- and those of the next version
  pub given_next : (v : ℕ) (names : List (Target w × ℕ)) (targets : List (Target w)) (book : Memory w) → targets ≡ live (table_at most plan (v + 1))
      → names ≡ next_names target_cmp K (all_names target_cmp K (lives_to most plan v)) targets → Remembers K (names ∷ all_names target_cmp K (lives_to most plan v)) book
      → (names ≡ naming_at K most plan (v + 1)) × HasGiven K most plan (v + 1) book
  given_next v names targets book these is has =
      let next : names ≡ next_names target_cmp K (all_names target_cmp K (lives_to most plan v)) (live (table_at most plan (v + 1))) = is ∙ ap (next_names target_cmp K (all_names (target_cmp {w = w}) K (lives_to most plan v))) these in (
        next ∙ ap newest (sym (names_next v)),
        subst (λ ns. Remembers K ns book) (ap (λ n. n ∷ all_names (target_cmp {w = w}) K (lives_to most plan v)) next ∙ sym (names_next v)) has,
      )

  -- where there are no indexes of the next version yet
  pub not_named : (v : ℕ) (book : Memory w) (o : Option (Naming w)) → o ≡ None → IsNext K most plan v book o → HasGiven K most plan v book
  not_named v book o none is = subst (IsNext K most plan v book) none is

  -- each version's indexes are given after some
  some_names : (v : ℕ) → (before : List (Target w × ℕ)) × IsAfter v before
  some_names zero = ([], first_names)
  some_names (suc v) = (naming_at K most plan v, subst (λ n. IsAfter n (naming_at K most plan v)) (add-one v) (later_names v))

  pub keys_at : (v : ℕ) → keys_of (naming_at K most plan v) ≡ live (table_at most plan v)
  keys_at v =
      let after = some_names v in
      ap (λ (ns : List (Target w × ℕ)). keys_of ns) after.1.names ∙ keys-named (target_cmp {w = w}) after.0 (live (table_at most plan v)) after.1.used

  pub sorted_at : (v : ℕ) → IsStrictlySortedBy (target_cmp {w = w}) (keys_of (naming_at K most plan v))
  sorted_at v = subst (IsStrictlySortedBy (target_cmp {w = w})) (sym (keys_at v)) (live_ascends w (table_at most plan v))

  pub positive_at : (v : ℕ) → All (λ e. 1 ≤ e.1) (naming_at K most plan v)
  positive_at zero = subst (All (λ (e : Target w × ℕ). 1 ≤ e.1)) (sym first_names.names) (positive_named (target_cmp {w = w}) target_total [] (All-nil (λ (e : Target w × ℕ). 1 ≤ e.1)) (live (table_at most plan 0)) first_names.used)
  positive_at (suc v) =
      let after = later_names v in
      let all : All (λ (e : Target w × ℕ). 1 ≤ e.1) (naming_at K most plan (v + 1)) =
      subst (All (λ (e : Target w × ℕ). 1 ≤ e.1)) (sym after.names) (positive_named (target_cmp {w = w}) target_total (naming_at K most plan v) (positive_at v) (live (table_at most plan (v + 1))) after.used) in
      subst (λ n. All (λ (e : Target w × ℕ). 1 ≤ e.1) (naming_at K most plan n)) (add-one v) all

  leads_at : (v : ℕ) → LeadToLive {w = w} (live (table_at most plan v)) (table_at most plan v)
  leads_at v = rows_lead w (table_at most plan v) (tables_are_in_order w most plan (commands_at most plan v)).lists

  -- each row of the version's table has an index
  pub named_rows_at : (v : ℕ) → AreNamed (number_in (naming_at K most plan v)) (table_at most plan v)
  named_rows_at v = are_named w (naming_at K most plan v) (live (table_at most plan v)) (table_at most plan v) (keys_at v) (positive_at v) (leads_at v)

  pub keeps_at : (v : ℕ) → Keeps (number_in (naming_at K most plan v)) (number_in (naming_at K most plan (v + 1)))
  keeps_at v =
      let after = later_names v in
      keeps_named w (naming_at K most plan v) after.used (naming_at K most plan (v + 1)) (live (table_at most plan (v + 1))) after.names

  one_at : 2 ≤ K → (v : ℕ) → IsOneToOne (naming_at K most plan v)
  one_at two v t s i = once (target_cmp {w = w}) target_exact K (lives_to most plan v) t s i two

  -- with each group the nexthops of its paths have indexes
  pub closed_at : 2 ≤ K → (v : ℕ) → IsClosed (names_at K most plan v)
  closed_at two v = closed_in (naming_at K most plan v) (one_at two v) (subst AreClosed (sym (keys_at v)) (live_closed w (table_at most plan v)))

  -- a target of both versions has one index
  pub kept_at : (v : ℕ) → KeepIndexes (names_at K most plan v) (names_at K most plan (v + 1))
  kept_at v = let after = later_names v in kept_in (naming_at K most plan (v + 1)) (naming_at K most plan v) (live (table_at most plan (v + 1))) after.used (sorted_at v) after.names

  -- each row with its index, which is that of what the row leads to
  pub indexed_at : 2 ≤ K → (v : ℕ) → AreIndexed (names_at K most plan v) (table_at most plan v) (indexed (number_in (naming_at K most plan v)) (table_at most plan v))
  indexed_at two v =
      indexed_in (naming_at K most plan v) (one_at two v) (table_at most plan v)
      (subst (λ ts. LeadToLive {w = w} ts (table_at most plan v)) (sym (keys_at v)) (leads_at v))

-- the indexes of the next version, where the book has given them
pub next_is : {w K most : ℕ} (plan : Planned w) (v : ℕ) (n : Numbering w K most) (next : Naming w) → AreNamesAt plan v n → n.next ≡ Some next → next.names ≡ naming_at K most plan (v + 1)
next_is {w} {K} {most} plan v n next at is =
    let both : (next.names ≡ naming_at K most plan (v + 1)) × HasGiven K most plan (v + 1) n.book = subst (IsNext K most plan v n.book) is at.next in
    both.0
