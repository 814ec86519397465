-- An index set in a part of the rows is set in the whole, where what stands before is less and what stands behind is greater.
use Rattle.std.proofs.Common.{◌≡◌, ◌≢◌, ℕ, cond, List, [], ◌∷◌, ◌++◌, Option, Some, None, refl, sym, ap, ◌∙◌, inl, inr}
use Rattle.std.proofs.lemmas.Bool.{cases_Bool, cond-false}
use Rattle.std.proofs.lemmas.List.{append-nil}
use Rattle.std.specs.List.{AllByRecursion}
use Rattle.std.specs.Map.{remove_entry}
use Rattle.std.specs.Ordering.{is_eq, match_ordering}
use Rattle.std.specs.declared.cmp.Ordering.TheVariants.{Less, Equal, Greater}
use Rattle.std.specs.BTreeMap.{insert_entry, is_at}
use Rattle.prefix_width.specs.Prefix.{Block}
use Rattle.prefix_width.specs.Order.{block_cmp}
use Rattle.module_trait.specs.View.{with_row}
use Rattle.module_trait.proofs.KeyLemmas.{at_is}
use Rattle.radix_lockless.specs.Trie.{own_rows}

-- all rows come after the prefix, or before it
abbrev pub AllAfter : Block → List (Block × ℕ) → Type 0
AllAfter q rows = AllByRecursion (λ r. block_cmp q r.0 ≡ Less) rows

abbrev pub AllBefore : Block → List (Block × ℕ) → Type 0
AllBefore q rows = AllByRecursion (λ r. block_cmp q r.0 ≡ Greater) rows

-- before rows that come after
pub set_first : (rows : List (Block × ℕ)) (q : Block) (index : Option ℕ) → AllAfter q rows → with_row rows q index ≡ own_rows q index ++ rows
set_first [] q None after = refl
set_first [] q (Some j) after = refl
set_first (r ∷ rows) q None after = ap (λ o. cond (is_eq o) rows (r ∷ remove_entry (is_at (block_cmp q)) rows)) after.0 ∙ ap (λ xs. r ∷ xs) (set_first rows q None after.1)
set_first (r ∷ rows) q (Some j) after = ap (λ o. match_ordering o ((q, j) ∷ r ∷ rows) ((r.0, j) ∷ rows) (r ∷ insert_entry block_cmp rows q j)) after.0

-- in front of rows that come after
pub set_front : (rows more : List (Block × ℕ)) (q : Block) (index : Option ℕ) → AllAfter q more → with_row (rows ++ more) q index ≡ with_row rows q index ++ more
set_front [] more q None after = set_first more q None after
set_front [] more q (Some j) after = set_first more q (Some j) after
set_front (r ∷ rows) more q None after =
    elim (block_cmp q r.0) as (λ o. cond (is_eq o) (rows ++ more) (r ∷ remove_entry (is_at (block_cmp q)) (rows ++ more)) ≡ cond (is_eq o) rows (r ∷ remove_entry (is_at (block_cmp q)) rows) ++ more) [
      | Less ↦ ap (λ xs. r ∷ xs) (set_front rows more q None after)
      | Equal ↦ refl
      | Greater ↦ ap (λ xs. r ∷ xs) (set_front rows more q None after)
    ]
set_front (r ∷ rows) more q (Some j) after =
    elim (block_cmp q r.0) as (λ o. match_ordering o ((q, j) ∷ r ∷ (rows ++ more)) ((r.0, j) ∷ (rows ++ more)) (r ∷ insert_entry block_cmp (rows ++ more) q j) ≡ match_ordering o ((q, j) ∷ r ∷ rows) ((r.0, j) ∷ rows) (r ∷ insert_entry block_cmp rows q j) ++ more) [
      | Less ↦ refl
      | Equal ↦ refl
      | Greater ↦ ap (λ xs. r ∷ xs) (set_front rows more q (Some j) after)
    ]

-- behind rows that come before
pub set_back : (rows more : List (Block × ℕ)) (q : Block) (index : Option ℕ) → AllBefore q rows → with_row (rows ++ more) q index ≡ rows ++ with_row more q index
set_back [] more q None before = refl
set_back [] more q (Some j) before = refl
set_back (r ∷ rows) more q None before =
    ap (λ o. cond (is_eq o) (rows ++ more) (r ∷ remove_entry (is_at (block_cmp q)) (rows ++ more))) before.0 ∙ ap (λ xs. r ∷ xs) (set_back rows more q None before.1)
set_back (r ∷ rows) more q (Some j) before =
    ap (λ o. match_ordering o ((q, j) ∷ r ∷ (rows ++ more)) ((r.0, j) ∷ (rows ++ more)) (r ∷ insert_entry block_cmp (rows ++ more) q j)) before.0 ∙ ap (λ xs. r ∷ xs) (set_back rows more q (Some j) before.1)

-- between the two
pub set_between : (front rows back : List (Block × ℕ)) (q : Block) (index : Option ℕ) → AllBefore q front → AllAfter q back → with_row (front ++ (rows ++ back)) q index ≡ front ++ (with_row rows q index ++ back)
set_between front rows back q index before after = set_back front (rows ++ back) q index before ∙ ap (λ xs. front ++ xs) (set_front rows back q index after)

-- a prefix's own row, first of those that come after
pub set_own : (q : Block) (old new : Option ℕ) (rows : List (Block × ℕ)) → block_cmp q q ≡ Equal → AllAfter q rows → with_row (own_rows q old ++ rows) q new ≡ own_rows q new ++ rows
set_own q None new rows same after = set_first rows q new after
set_own q (Some i) None rows same after = ap (λ o. cond (is_eq o) rows ((q, i) ∷ remove_entry (is_at (block_cmp q)) rows)) same
set_own q (Some i) (Some j) rows same after = ap (λ o. match_ordering o ((q, j) ∷ (q, i) ∷ rows) ((q, j) ∷ rows) ((q, i) ∷ insert_entry block_cmp rows q j)) same

-- and last of those that come before
pub set_last : (q : Block) (old new : Option ℕ) (rows : List (Block × ℕ)) → block_cmp q q ≡ Equal → AllBefore q rows → with_row (rows ++ own_rows q old) q new ≡ rows ++ own_rows q new
set_last q old new rows same before =
    set_back rows (own_rows q old) q new before
    ∙ ap (λ xs. rows ++ xs) (ap (λ xs. with_row xs q new) (sym (append-nil (own_rows q old))) ∙ set_own q old new [] same tt ∙ append-nil (own_rows q new))

-- where no row is the prefix's, there is none to take out
pub set_absent : (rows : List (Block × ℕ)) (q : Block) → AllByRecursion (λ r. q ≢ r.0) rows → with_row rows q None ≡ rows
set_absent [] q other = refl
set_absent (r ∷ rows) q other = elim (cases_Bool (is_at (block_cmp q) r.0)) [
  | inl h ↦ absurd (other.0 (at_is q r.0 h))
  | inr h ↦ cond-false _ _ _ h ∙ ap (λ xs. r ∷ xs) (set_absent rows q other.1)
]
