-- From one version's rows with their indexes to the next version's.
use Rattle.std.proofs.Common.{◌≡◌, ◌≢◌, ◌∙◌, ℕ, ◌≤◌, true, false, cond, List, [], ◌∷◌, Option, Some, None, refl, sym, ap, subst, inl, inr}
use Rattle.std.specs.Prelude.{option_map}
use Rattle.std.specs.List.Sorted.{IsStrictlySortedBy}
use Rattle.std.specs.Map.{keys_of, values_of}
use Rattle.std.specs.BTreeMap.{is_at}
use Rattle.std.proofs.lemmas.Bool.{cases_Bool, or_parts}
use Rattle.std.proofs.lemmas.List.Elements.{All-cons, All-nil, All-head, All-tail}
use Rattle.prefix_width.specs.Prefix.{Block}
use Rattle.prefix_width.specs.Order.{block_cmp}
use Rattle.nhgrp_slots.specs.Spread.{Spread}
use Rattle.module_trait.specs.Rows.{IsAscending, HaveIndexes, AreRows}
use Rattle.module_trait.specs.View.{row_at, with_row}
use Rattle.module_trait.specs.Edit.{IndexChange, IsEdit, IsIndex, undone_all}
use Rattle.rib_store.specs.Table.{Table, paths_at}
use Rattle.fib_edits.specs.Touching.{is_among, SameBut}
use Rattle.fib_edits.specs.Named.{Naming, numbered, indexed, index_at, AreNamed, Keeps}
use Rattle.fib_edits.specs.Edits.{same_index, edit_and, edits_at, done_all, is_edited, AreEdits}
use Rattle.fib_edits.proofs.EditLemmas.{Nears, near_step, near_start, near_end, same_is, same_itself, differ, same_rows, ascends_with, ascends_done, ascends_undone, walk_done, walk_undone, each_edit, distinct, edited}

-- ---- rows with indexes

pub row_at-indexed : (n : Naming) (rows : Table) (p : Block) → row_at (indexed n rows) p ≡ index_at n rows p
row_at-indexed n [] p = refl
row_at-indexed n (row ∷ rows) p =
    let rest = row_at-indexed n rows p in
    elim (is_at (block_cmp p) row.0) as (λ b. cond b (Some (numbered n row.1)) (row_at (indexed n rows) p) ≡ option_map (numbered n) (cond b (Some row.1) (paths_at rows p))) [ true ↦ refl | false ↦ rest ]

pub keys-indexed : (n : Naming) (rows : Table) → keys_of (indexed n rows) ≡ keys_of rows
keys-indexed n [] = refl
keys-indexed n (row ∷ rows) = ap (λ ks. row.0 ∷ ks) (keys-indexed n rows)

pub indexes-indexed : (n : Naming) (rows : Table) → AreNamed n rows → HaveIndexes (indexed n rows)
indexes-indexed n [] named = All-nil (λ i. 1 ≤ i)
indexes-indexed n (row ∷ rows) named =
    All-cons (λ i. 1 ≤ i) (numbered n row.1) (values_of (indexed n rows)) (All-head (λ ps. 1 ≤ numbered n ps) row.1 (values_of rows) named)
    (indexes-indexed n rows (All-tail (λ ps. 1 ≤ numbered n ps) row.1 (values_of rows) named))

-- what is looked up in such rows is an index of 1 or more
pub index_is : (rows : List (Block × ℕ)) (q : Block) → HaveIndexes rows → IsIndex (row_at rows q)
index_is [] q all = tt
index_is (e ∷ rows) q all =
    let first = All-head (λ i. 1 ≤ i) e.1 (values_of rows) all in
    let rest = index_is rows q (All-tail (λ i. 1 ≤ i) e.1 (values_of rows) all) in
    elim (is_at (block_cmp q) e.0) as (λ b. IsIndex (cond b (Some e.1) (row_at rows q))) [ true ↦ first | false ↦ rest ]

-- a row that is not touched keeps its index: its target was there before
pub untouched : (old new : Naming) (was is : Table) (touched : List Block) → AreNamed old was → AreNamed new is → Keeps old new → SameBut touched was is
    → (q : Block) → is_among q touched ≡ false → index_at old was q ≡ index_at new is q
untouched old new was is touched named_old named_new keeps same q none =
    by (paths_at was q) refl
    (subst IsIndex (row_at-indexed old was q) (index_is (indexed old was) q (indexes-indexed old was named_old)))
    (subst IsIndex (row_at-indexed new is q ∙ ap (option_map (numbered new)) (same q none)) (index_is (indexed new is) q (indexes-indexed new is named_new)))
    ∙ ap (option_map (numbered new)) (sym (same q none))
  where
    by : (o : Option Spread) → paths_at was q ≡ o → IsIndex (option_map (numbered old) (paths_at was q)) → IsIndex (option_map (numbered new) (paths_at was q))
        → option_map (numbered old) (paths_at was q) ≡ option_map (numbered new) (paths_at was q)
    by None h one two = ap (option_map (numbered old)) h ∙ sym (ap (option_map (numbered new)) h)
    by (Some paths) h one two =
        let was_one : 1 ≤ numbered old paths = subst (λ o. IsIndex (option_map (numbered old) o)) h one in
        let is_one : 1 ≤ numbered new paths = subst (λ o. IsIndex (option_map (numbered new) o)) h two in
        ap (option_map (numbered old)) h ∙ ap (λ (n : ℕ). let o : Option ℕ = Some n in o) (sym (keeps paths was_one is_one)) ∙ sym (ap (option_map (numbered new)) h)

-- ---- from one version to the next

-- what is known at a cut
pub record IsCut (old new : Naming) (was is : Table) (touched : List Block) : Type 0 where
  pub up_was : IsStrictlySortedBy block_cmp (keys_of was)
  pub up_is : IsStrictlySortedBy block_cmp (keys_of is)
  pub up_touched : IsStrictlySortedBy block_cmp touched
  pub named_old : AreNamed old was
  pub named_new : AreNamed new is
  pub keeps : Keeps old new
  pub same : SameBut touched was is

module _ (old new : Naming) (was is : Table) (touched : List Block) (c : IsCut old new was is touched) where
  from : Block → Option ℕ
  from q = row_at (indexed old was) q

  up_from : IsAscending (indexed old was)
  up_from = subst (IsStrictlySortedBy block_cmp) (sym (keys-indexed old was)) c.up_was

  up_to : IsAscending (indexed new is)
  up_to = subst (IsStrictlySortedBy block_cmp) (sym (keys-indexed new is)) c.up_is

  kept : (q : Block) → is_among q touched ≡ false → row_at (indexed old was) q ≡ index_at new is q
  kept q none = row_at-indexed old was q ∙ untouched old new was is touched c.named_old c.named_new c.keeps c.same q none

  abbrev pub cut_edits : List IndexChange
  cut_edits = edits_at (row_at (indexed old was)) (index_at new is) touched

  pub cut_done : done_all cut_edits (indexed old was) ≡ indexed new is
  cut_done =
      same_rows (done_all cut_edits (indexed old was)) (indexed new is) (ascends_done cut_edits (indexed old was) up_from) up_to
      (λ q. walk_done (row_at (indexed old was)) (index_at new is) touched (indexed old was) up_from
      (near_start (row_at (indexed old was)) (index_at new is) touched (indexed old was) (λ _. refl) kept) q
      ∙ sym (row_at-indexed new is q))

  pub cut_undone : undone_all cut_edits (indexed new is) ≡ indexed old was
  cut_undone =
      same_rows (undone_all cut_edits (indexed new is)) (indexed old was) (ascends_undone cut_edits (indexed new is) up_to) up_from
      (walk_undone (row_at (indexed old was)) (index_at new is) touched (indexed new is) up_to
      (near_start (index_at new is) (row_at (indexed old was)) touched (indexed new is) (row_at-indexed new is) (λ q none. sym (kept q none))))

  pub cut_rows : AreRows (indexed new is)
  cut_rows = record { ascending = up_to; indexes = indexes-indexed new is c.named_new }

  pub cut_is : AreEdits (indexed old was) (indexed new is) cut_edits
  cut_is = record {
    distinct = distinct (row_at (indexed old was)) (index_at new is) touched c.up_touched;
    sides = each_edit (row_at (indexed old was)) (index_at new is) (λ e. IsEdit e.before e.after)
        (λ p h. (differ (row_at (indexed old was) p) (index_at new is p) h, index_is (indexed old was) p (indexes-indexed old was c.named_old), subst IsIndex (row_at-indexed new is p) (index_is (indexed new is) p (indexes-indexed new is c.named_new)))) touched;
    before = each_edit (row_at (indexed old was)) (index_at new is) (λ e. row_at (indexed old was) e.prefix ≡ e.before) (λ p h. refl) touched;
    after = each_edit (row_at (indexed old was)) (index_at new is) (λ e. row_at (indexed new is) e.prefix ≡ e.after) (λ p h. row_at-indexed new is p) touched;
    all = λ p n. complete p n;
  }
    where
      complete : (p : Block) → row_at (indexed old was) p ≢ row_at (indexed new is) p → is_edited p cut_edits ≡ true
      complete p n = elim (cases_Bool (same_index (row_at (indexed old was) p) (index_at new is p))) [
        | inl same ↦ absurd (n (same_is (row_at (indexed old was) p) (index_at new is p) same ∙ sym (row_at-indexed new is p)))
        | inr other ↦ elim (cases_Bool (is_among p touched)) [
          | inl among ↦ edited (row_at (indexed old was)) (index_at new is) touched p among other
          | inr none ↦ absurd (n (kept p none ∙ sym (row_at-indexed new is p)))
        ]
      ]

-- rows that have gone from one version to the next by these edits
pub record Moved (new : Naming) (is : Table) (before after : List (Block × ℕ)) (edits : List IndexChange) : Type 0 where
  pub now : after ≡ indexed new is
  pub are : AreEdits before after edits
  pub back : undone_all edits after ≡ before
  pub rows : AreRows after

pub moved : (old new : Naming) (was is : Table) (touched : List Block) → IsCut old new was is touched → (before after : List (Block × ℕ)) (edits : List IndexChange) → before ≡ indexed old was
    → edits ≡ edits_at (row_at before) (index_at new is) touched → after ≡ done_all edits before → Moved new is before after edits
moved old new was is touched c before after edits from these done = record {
  now = to;
  are = subst (λ v. AreEdits v after edits) (sym from) (subst (λ v. AreEdits (indexed old was) v edits) (sym to) (subst (AreEdits (indexed old was) (indexed new is)) (sym es) (cut_is old new was is touched c)));
  back = ap (λ e. undone_all e after) es ∙ ap (undone_all (edits_at (row_at (indexed old was)) (index_at new is) touched)) to ∙ cut_undone old new was is touched c ∙ sym from;
  rows = subst AreRows (sym to) (cut_rows old new was is touched c);
}
  where
    es : edits ≡ edits_at (row_at (indexed old was)) (index_at new is) touched
    es = these ∙ ap (λ v. edits_at (row_at v) (index_at new is) touched) from

    to : after ≡ indexed new is
    to = done ∙ ap (λ e. done_all e before) es ∙ ap (done_all (edits_at (row_at (indexed old was)) (index_at new is) touched)) from ∙ cut_done old new was is touched c

-- ---- the list of edits, one by one

no_edit : (x y : Option ℕ) → (IsEdit x y → ⊥) → IsIndex x → IsIndex y → x ≡ y
no_edit x y none one two = elim (cases_Bool (same_index x y)) [
  | inl h ↦ same_is x y h
  | inr h ↦ absurd (none (differ x y h, one, two))
]

pub edits_skip : (from to : Block → Option ℕ) (left rest : List Block) (p : Block) → left ≡ p ∷ rest → from p ≡ to p → edits_at from to left ≡ edits_at from to rest
edits_skip from to left rest p is same =
    ap (edits_at from to) is
    ∙ ap (λ x. edit_and p x (to p) (edits_at from to rest)) same
    ∙ ap (λ b. cond b (edits_at from to rest) (record { prefix = p; before = to p; after = to p } ∷ edits_at from to rest)) (same_itself (to p))

-- no edit comes of a prefix whose sides are no edit
pub edits_none : (n : Naming) (rows : Table) (view : List (Block × ℕ)) (left rest : List Block) (p : Block) → left ≡ p ∷ rest → AreNamed n rows → HaveIndexes view
    → (IsEdit (row_at view p) (index_at n rows p) → ⊥) → edits_at (row_at view) (index_at n rows) left ≡ edits_at (row_at view) (index_at n rows) rest
edits_none n rows view left rest p is named have none =
    edits_skip (row_at view) (index_at n rows) left rest p is
    (no_edit (row_at view p) (index_at n rows p) none (index_is view p have) (subst IsIndex (row_at-indexed n rows p) (index_is (indexed n rows) p (indexes-indexed n rows named))))

-- ---- a view built anew

absent : (rows : Table) (q : Block) → is_among q (keys_of rows) ≡ false → paths_at rows q ≡ None
absent [] q none = refl
absent (e ∷ rows) q none =
    let parts = or_parts (is_at (block_cmp q) e.0) (is_among q (keys_of rows)) none in
    ap (λ b. cond b (Some e.1) (paths_at rows q)) parts.0 ∙ absent rows q parts.1

-- the view has the rows so far, and no row of those that are left
pub record Views (n : Naming) (all left : Table) (view : List (Block × ℕ)) : Type 0 where
  pub up : IsAscending view
  pub near : Nears (λ _. None) (index_at n all) (keys_of left) view

pub view_starts : (n : Naming) (all : Table) → Views n all all []
unfolding IsStrictlySortedBy
view_starts n all = record {
  up = tt;
  near = near_start (λ _. None) (index_at n all) (keys_of all) [] (λ _. refl) (λ q none. sym (ap (option_map (numbered n)) (absent all q none)));
}

pub view_step : (n : Naming) (all left rest : Table) (e : Block × Spread) (view new : List (Block × ℕ)) → Views n all left view → left ≡ e ∷ rest → new ≡ with_row view e.0 (index_at n all e.0) → Views n all rest new
view_step n all left rest e view new v is set = subst (Views n all rest) (sym set) (record {
  up = ascends_with view e.0 (index_at n all e.0) v.up;
  near = near_step (λ _. None) (index_at n all) e.0 (keys_of rest) view v.up (subst (λ rows. Nears (λ _. None) (index_at n all) (keys_of rows) view) is v.near);
})

pub view_ends : (n : Naming) (all left : Table) (view : List (Block × ℕ)) → Views n all left view → left ≡ [] → IsStrictlySortedBy block_cmp (keys_of all) → view ≡ indexed n all
view_ends n all left view v is up =
    same_rows view (indexed n all) v.up (subst (IsStrictlySortedBy block_cmp) (sym (keys-indexed n all)) up)
    (λ q. near_end (λ _. None) (index_at n all) view (subst (λ rows. Nears (λ _. None) (index_at n all) (keys_of rows) view) is v.near) q ∙ sym (row_at-indexed n all q))
