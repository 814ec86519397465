-- The rows of a version with their indexes are one list, so its module and they tell how many reads a lookup makes.
use Rattle.std.proofs.Common.{◌≡◌, ℕ, zero, suc, ◌<◌, List, [], ◌∷◌, Some, refl, sym, ◌∙◌, ap, subst, arith, inl, inr}
use Rattle.std.specs.Prelude.{slice_get}
use Rattle.std.specs.List.{AllByRecursion}
use Rattle.std.specs.List.Sorted.{IsStrictlySortedBy}
use Rattle.std.specs.Map.{keys_of}
use Rattle.std.specs.declared.cmp.Ordering.{Ordering}
use Rattle.std.specs.declared.cmp.Ordering.TheVariants.{Less, Equal}
use Rattle.std.proofs.lemmas.Cmp.{tied_itself}
use Rattle.std.proofs.lemmas.Option.{same_Some}
use Rattle.prefix_width.specs.Prefix.{Block}
use Rattle.nhgrp_slots.specs.Target.{target_cmp}
use Rattle.nhgrp_slots.specs.declared.target.Target.{Target}
use Rattle.nhgrp_slots.proofs.TargetOrder.{target_total}
use Rattle.nhop_index.specs.Indexes.{all_names, newest, window}
use Rattle.nhop_index.specs.Laws.{IsNamed}
use Rattle.nhop_index.proofs.VersionLemmas.{keys-named}
use Rattle.rib_store.specs.Plan.{Planned}
use Rattle.rib_store.specs.Table.{Table}
use Rattle.nhgrp_slots.specs.Target.{target_of}
use Rattle.rib_store.specs.Targets.{live}
use Rattle.rib_store.proofs.TargetLemmas.{live_ascends}
use Rattle.plan_cut.specs.VersionTable.{table_at}
use Rattle.plan_cut.specs.Versions.{Version}
use Rattle.plan_cut.specs.PlanCourse.{versions_of}
use Rattle.engine_set.specs.Engine.{IsBound, Stands, kind_of}
use Rattle.engine_set.specs.Image.{Picture}
use Rattle.fib_sync.specs.Lawful.{AreIndexed, IsLawful, Names}
use Rattle.fib_sync.specs.VersionNames.{lives_to, names_at, naming_at}
use Rattle.fib_pass.specs.Lookups.{AreReads}
use Rattle.fib_pass.proofs.IndexLemmas.{named_at}

module _ {X : Type 0} (cmp : X → X → Ordering) (itself : (x : X) → cmp x x ≡ Equal) where
  named_above : (a t : X) (i : ℕ) (es : List (X × ℕ)) → AllByRecursion (λ x. cmp a x ≡ Less) (keys_of es) → IsNamed t i es → cmp a t ≡ Less
  named_above a t i [] all h = elim h [ ]
  named_above a t i (e ∷ es) all (inl h) = ap (cmp a) (sym (ap (λ q. q.0) h)) ∙ all.0
  named_above a t i (e ∷ es) all (inr h) = named_above a t i es all.1 h

  not_again : (e : X × ℕ) (t : X) (i j : ℕ) (es : List (X × ℕ)) → AllByRecursion (λ x. cmp e.0 x ≡ Less) (keys_of es) → e ≡ (t, i) → IsNamed t j es → ⊥
  not_again e t i j es all h k =
      let same : e.0 ≡ t = ap (λ q. q.0) h in
      let less : cmp e.0 t ≡ Less = named_above e.0 t j es all k in
      let even : cmp e.0 t ≡ Equal = ap (cmp e.0) (sym same) ∙ itself e.0 in
      cc

  -- of targets in order each has one index
  one_index : (t : X) (i j : ℕ) (es : List (X × ℕ)) → IsStrictlySortedBy cmp (keys_of es) → IsNamed t i es → IsNamed t j es → i ≡ j
  unfolding IsStrictlySortedBy
  one_index t i j [] up h k = elim h [ ]
  one_index t i j (e ∷ es) up (inl h) (inl k) = sym (ap (λ q. q.1) h) ∙ ap (λ q. q.1) k
  one_index t i j (e ∷ es) up (inl h) (inr k) = absurd (not_again e t i j es up.0 h k)
  one_index t i j (e ∷ es) up (inr h) (inl k) = absurd (not_again e t j i es up.0 k h)
  one_index t i j (e ∷ es) up (inr h) (inr k) = one_index t i j es up.1 h k

module _ {w : ℕ} (K most : ℕ) (plan : Planned w) where
  sorted-naming : (v : ℕ) → IsStrictlySortedBy (target_cmp {w = w}) (keys_of (naming_at K most plan v))
  unfolding lives_to
  sorted-naming zero =
      subst (IsStrictlySortedBy (target_cmp {w = w})) (sym (keys-named (target_cmp {w = w}) [] (live {w = w} (table_at most plan 0)) (window K [])))
      (live_ascends w (table_at most plan 0))
  sorted-naming (suc v) =
      subst (IsStrictlySortedBy (target_cmp {w = w})) (sym (keys-named (target_cmp {w = w}) (naming_at K most plan v) (live {w = w} (table_at most plan (suc v))) (window K (all_names (target_cmp {w = w}) K (lives_to most plan v)))))
      (live_ascends w (table_at most plan (suc v)))

  same_index : (v i j : ℕ) (t : Target w) → names_at K most plan v i ≡ Some t → names_at K most plan v j ≡ Some t → i ≡ j
  same_index v i j t h k =
      one_index (target_cmp {w = w}) (tied_itself (target_total {w = w})) t i j (naming_at K most plan v) (sorted-naming v)
      (named_at (naming_at K most plan v) i t h) (named_at (naming_at K most plan v) j t k)

  same_rows : (v : ℕ) (table : Table) (rows others : List (Block × ℕ)) → AreIndexed (names_at K most plan v) table rows → AreIndexed (names_at K most plan v) table others → rows ≡ others
  same_rows v [] [] [] h k = refl
  same_rows v [] [] (o ∷ others) h k = absurd k
  same_rows v [] (r ∷ rows) others h k = absurd h
  same_rows v (row ∷ table) [] others h k = absurd h
  same_rows v (row ∷ table) (r ∷ rows) [] h k = absurd k
  same_rows v (row ∷ table) (r ∷ rows) (o ∷ others) h k =
      let prefix : r.0 ≡ o.0 = h.0.0 ∙ sym k.0.0 in
      let index : r.1 ≡ o.1 = same_index v r.1 o.1 (target_of row.1) h.0.1 k.0.1 in
      let ih : rows ≡ others = same_rows v table rows others h.1 k.1 in
      ap (λ x. let q : Block × ℕ = (x, r.1) in q ∷ rows) prefix ∙ ap (λ n. let q : Block × ℕ = (o.0, n) in q ∷ rows) index ∙ ap (λ (xs : List (Block × ℕ)). o ∷ xs) ih

  -- the bound of a version is that of a lawful image's engine
  pub reads_bound : (v n : ℕ) (image : Picture w) (lawful : IsLawful most plan (names_at K most plan v) v image) → AreReads K most plan v n → IsBound w (kind_of image.engine) lawful.engine.rows n
  reads_bound v n image lawful reads =
      let here : reads.version ≡ record { number = image.version; count = image.count; kind = kind_of image.engine } =
      same_Some reads.version (record { number = image.version; count = image.count; kind = kind_of image.engine }) (sym reads.listed ∙ lawful.listed) in
      let kind : reads.version.kind ≡ kind_of image.engine = ap (λ v. v.kind) here in
      let rows : reads.rows ≡ lawful.engine.rows = same_rows v (table_at most plan v) reads.rows lawful.engine.rows reads.indexed lawful.engine.indexed in
      subst (λ k. IsBound w k lawful.engine.rows n) kind (subst (λ (xs : List (Block × ℕ)). IsBound w reads.version.kind xs n) rows reads.bound)
