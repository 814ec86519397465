-- Rows with edits undone and made again, and rows added one by one.
use Rattle.std.proofs.Common.{◌≡◌, ℕ, suc, ◌+◌, ◌≤◌, ◌<◌, true, false, cond, List, [], ◌∷◌, ◌++◌, length, take, drop, get_or, Option, Some, None, All, refl, sym, ap, ◌∙◌, arith, subst, drop-cons, add-one}
use Rattle.std.specs.List.{AllByRecursion}
use Rattle.std.specs.List.Sorted.{IsStrictlySortedBy}
use Rattle.std.specs.Prelude.{slice_index_or}
use Rattle.std.specs.Map.{keys_of, remove_entry}
use Rattle.std.specs.BTreeMap.{insert_entry, is_at}
use Rattle.std.specs.Ordering.{match_ordering, ordering_reverse}
use Rattle.std.specs.declared.cmp.Ordering.{Ordering}
use Rattle.std.specs.declared.cmp.Ordering.TheVariants.{Less, Equal, Greater}
use Rattle.std.proofs.lemmas.List.{take_more, take-append-drop, append-nil}
use Rattle.std.proofs.lemmas.List.Elements.{All-from_recursion, All-map}
use Rattle.std.proofs.lemmas.Map.Keys.{sorted_head, sorted_tail}
use Rattle.std.proofs.lemmas.Map.Views.{All-map-remove_entry, All-values-insert_entry}
use Rattle.prefix_width.specs.Prefix.{Block, IsBlock}
use Rattle.prefix_width.specs.Order.{block_cmp}
use Rattle.module_trait.specs.Rows.{AreBlocks, HaveIndexes, IsAscending}
use Rattle.module_trait.specs.View.{with_row}
use Rattle.module_trait.specs.Edit.{IndexChange, AreOfDistinct, HaveAfter, IsIndex, undone, undone_all}
use Rattle.module_trait.proofs.KeyLemmas.{row_at-other}
use Rattle.module_trait.proofs.UndoLemmas.{block_total, set_back}
use Rattle.radix_lockless.specs.Table.{with_edits}
use Rattle.radix_lockless.proofs.PutLemmas.{AllBefore, set_last}
use Rattle.radix_lockless.proofs.RewriteLemmas.{self_equal}

-- an index set leaves keys that all had a property and the prefix's own
all_set : (P : Block → Type 0) (rows : List (Block × ℕ)) (p : Block) (index : Option ℕ) → AllByRecursion P (keys_of rows) → P p → AllByRecursion P (keys_of (with_row rows p index))
all_set P [] p None all own = tt
all_set P [] p (Some i) all own = (own, tt)
all_set P (e ∷ rows) p None all own =
    elim (is_at (block_cmp p) e.0) as (λ b. AllByRecursion P (keys_of (cond b rows (e ∷ remove_entry (is_at (block_cmp p)) rows)))) [ true ↦ all.1 | false ↦ (all.0, all_set P rows p None all.1 own) ]
all_set P (e ∷ rows) p (Some i) all own =
    elim (block_cmp p e.0) as (λ o. AllByRecursion P (keys_of (match_ordering o ((p, i) ∷ e ∷ rows) ((e.0, i) ∷ rows) (e ∷ insert_entry block_cmp rows p i)))) [
      | Less ↦ (own, all)
      | Equal ↦ all
      | Greater ↦ (all.0, all_set P rows p (Some i) all.1 own)
    ]

less_from_greater : (p q : Block) → block_cmp p q ≡ Greater → block_cmp q p ≡ Less
less_from_greater p q h = block_total.antisymm q p ∙ ap ordering_reverse h

less_all : (p q : Block) (keys : List Block) → block_cmp p q ≡ Less → AllByRecursion (λ k. block_cmp q k ≡ Less) keys → AllByRecursion (λ k. block_cmp p k ≡ Less) keys
less_all p q [] h all = tt
less_all p q (k ∷ keys) h all = (block_total.trans p q k h all.0, less_all p q keys h all.1)

sorted_cons : (k : Block) (keys : List Block) → AllByRecursion (λ y. block_cmp k y ≡ Less) keys → IsStrictlySortedBy block_cmp keys → IsStrictlySortedBy block_cmp (k ∷ keys)
unfolding IsStrictlySortedBy
sorted_cons k keys head tail = (head, tail)

sorted_nil : IsStrictlySortedBy block_cmp []
unfolding IsStrictlySortedBy
sorted_nil = tt

-- rows with an index set ascend
pub set_ascending : (rows : List (Block × ℕ)) (p : Block) (index : Option ℕ) → IsAscending rows → IsAscending (with_row rows p index)
set_ascending [] p None up = sorted_nil
set_ascending [] p (Some i) up = sorted_cons p [] tt sorted_nil
set_ascending (e ∷ rows) p None up =
    let tail = sorted_tail block_cmp e.0 (keys_of rows) up in
    let head = sorted_head block_cmp e.0 (keys_of rows) up in
    elim (is_at (block_cmp p) e.0) as (λ b. IsStrictlySortedBy block_cmp (keys_of (cond b rows (e ∷ remove_entry (is_at (block_cmp p)) rows)))) [
      | true ↦ tail
      | false ↦ sorted_cons e.0 (keys_of (with_row rows p None)) (removed rows head) (set_ascending rows p None tail)
    ]
  where
    removed : (rows : List (Block × ℕ)) → AllByRecursion (λ y. block_cmp e.0 y ≡ Less) (keys_of rows) → AllByRecursion (λ y. block_cmp e.0 y ≡ Less) (keys_of (with_row rows p None))
    removed [] all = tt
    removed (r ∷ rows) all = elim (is_at (block_cmp p) r.0) as (λ b. AllByRecursion (λ y. block_cmp e.0 y ≡ Less) (keys_of (cond b rows (r ∷ remove_entry (is_at (block_cmp p)) rows)))) [ true ↦ all.1 | false ↦ (all.0, removed rows all.1) ]
set_ascending (e ∷ rows) p (Some i) up = by (block_cmp p e.0) refl (set_ascending rows p (Some i) (sorted_tail block_cmp e.0 (keys_of rows) up))
  where
    by : (o : Ordering) → block_cmp p e.0 ≡ o → IsAscending (with_row rows p (Some i)) → IsStrictlySortedBy block_cmp (keys_of (match_ordering o ((p, i) ∷ e ∷ rows) ((e.0, i) ∷ rows) (e ∷ insert_entry block_cmp rows p i)))
    by Less h rest = sorted_cons p (keys_of (e ∷ rows)) (h, less_all p e.0 (keys_of rows) h (sorted_head block_cmp e.0 (keys_of rows) up)) up
    by Equal h rest = up
    by Greater h rest = sorted_cons e.0 (keys_of (with_row rows p (Some i))) (all_set (λ y. block_cmp e.0 y ≡ Less) rows p (Some i) (sorted_head block_cmp e.0 (keys_of rows) up) (less_from_greater p e.0 h)) rest

-- edits undone, the first one first, and made again, the last one first
pub redone : (edits : List IndexChange) (view : List (Block × ℕ)) → IsAscending view → AreOfDistinct edits → HaveAfter edits view → with_edits edits (undone_all edits view) ≡ view
redone [] view up distinct after = refl
redone (e ∷ edits) view up distinct after =
    let before = undone e view in
    let rest = redone edits before (set_ascending view e.prefix e.before up)
    (λ i j d h k. distinct (suc i) (suc j) d (omega arith) (omega arith))
    (λ k d h. row_at-other view e.prefix (slice_index_or edits k d).prefix e.before (distinct 0 (suc k) d (omega arith) (omega arith)) ∙ after (suc k) d (omega arith)) in
    ap (λ rows. with_row rows e.prefix e.after) rest ∙ ap (with_row before e.prefix) (sym (after 0 e (omega arith))) ∙ set_back view e.prefix e.before up

indexes_set : (rows : List (Block × ℕ)) (p : Block) (index : Option ℕ) → IsIndex index → HaveIndexes rows → HaveIndexes (with_row rows p index)
indexes_set rows p None is all = All-map-remove_entry (is_at (block_cmp p)) (λ r. r.1) (λ i. 1 ≤ i) rows all
indexes_set rows p (Some index) is all = All-values-insert_entry block_cmp p index (λ i. 1 ≤ i) rows all is

-- edits whose indexes are 1 or more leave such
pub indexes_edited : (edits : List IndexChange) (rows : List (Block × ℕ)) → All (λ e. IsIndex e.after) edits → HaveIndexes rows → HaveIndexes (with_edits edits rows)
indexes_edited [] rows all indexes = indexes
indexes_edited (e ∷ edits) rows all indexes = indexes_set (with_edits edits rows) e.prefix e.after (all 0 e (omega arith)) (indexes_edited edits rows (λ k d h. all (suc k) d (omega arith)) indexes)

-- the prefixes of rows are of W bits, from the rows one by one
pub blocks_from : (w : ℕ) (rows : List (Block × ℕ)) → AllByRecursion (λ r. IsBlock w r.0) rows → AreBlocks w rows
blocks_from w rows all = All-map (IsBlock w) (λ r. r.0) rows (All-from_recursion (λ r. IsBlock w r.0) rows all)

-- the rows in front of a row come before it
in_front : (rows : List (Block × ℕ)) (i : ℕ) (d : Block × ℕ) → IsAscending rows → i < length rows → AllBefore (get_or rows i d).0 (take i rows)
in_front rows i d ascending inside = go (take i rows) (get_or rows i d) (drop (i + 1) rows) (subst IsAscending (sym whole) ascending)
  where
    whole : take i rows ++ get_or rows i d ∷ drop (i + 1) rows ≡ rows
    whole = ap (λ xs. take i rows ++ xs) (sym (drop-cons rows i d inside ∙ ap (λ n. get_or rows i d ∷ drop n rows) (sym (add-one i)))) ∙ take-append-drop i rows

    first : (p : Block) (xs : List (Block × ℕ)) (r : Block × ℕ) (ys : List (Block × ℕ)) → AllByRecursion (λ q. block_cmp p q ≡ Less) (keys_of (xs ++ r ∷ ys)) → block_cmp p r.0 ≡ Less
    first p [] r ys all = all.0
    first p (x ∷ xs) r ys all = first p xs r ys all.1

    go : (xs : List (Block × ℕ)) (r : Block × ℕ) (ys : List (Block × ℕ)) → IsAscending (xs ++ r ∷ ys) → AllBefore r.0 xs
    go [] r ys sorted = tt
    go (x ∷ xs) r ys sorted = (
      block_total.antisymm r.0 x.0 ∙ ap ordering_reverse (first x.0 xs r ys (sorted_head block_cmp x.0 (keys_of (xs ++ r ∷ ys)) sorted)),
      go xs r ys (sorted_tail block_cmp x.0 (keys_of (xs ++ r ∷ ys)) sorted),
    )

-- one more of ascending rows is set at their end
pub set_next : (rows : List (Block × ℕ)) (i : ℕ) (row : Block × ℕ) → IsAscending rows → i < length rows → row ≡ get_or rows i row → with_row (take i rows) row.0 (Some row.1) ≡ take (i + 1) rows
set_next rows i row up inside is =
    let front : AllBefore row.0 (take i rows) = subst (λ (r : Block × ℕ). AllBefore r.0 (take i rows)) (sym is) (in_front rows i row up inside) in
    ap (λ xs. with_row xs row.0 (Some row.1)) (sym (append-nil (take i rows)))
    ∙ set_last row.0 None (Some row.1) (take i rows) (self_equal row.0) front
    ∙ ap (λ r. take i rows ++ r ∷ []) is
    ∙ sym (take_more rows i row inside)
