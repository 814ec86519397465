-- Rows with an index set and set back are the rows.
use Rattle.std.proofs.Common.{◌≡◌, ℕ, cond, List, [], ◌∷◌, Option, Some, None, refl, sym, ap, ◌∙◌, subst, inl, inr}
use Rattle.std.specs.declared.cmp.Ordering.{Ordering}
use Rattle.std.specs.declared.cmp.Ordering.TheVariants.{Less, Equal, Greater}
use Rattle.std.specs.Cmp.{IsTotalOrder, nat_cmp_is}
use Rattle.std.specs.List.{AllByRecursion}
use Rattle.std.specs.Ordering.{nat_cmp, is_eq, match_ordering, ordering_then}
use Rattle.std.specs.Map.{keys_of, remove_entry}
use Rattle.std.specs.BTreeMap.{insert_entry, is_at}
use Rattle.std.proofs.lemmas.Bool.{cases_Bool}
use Rattle.std.proofs.lemmas.Cmp.{nat_cmp_total, on_total, then_total}
use Rattle.std.proofs.lemmas.Map.{lookup-none}
use Rattle.std.proofs.lemmas.Map.Entries.{none_below_head}
use Rattle.std.proofs.lemmas.Map.Keys.{sorted_head, sorted_tail}
use Rattle.prefix_width.specs.Prefix.{Block}
use Rattle.prefix_width.specs.Order.{block_cmp}
use Rattle.module_trait.specs.Rows.{IsAscending}
use Rattle.module_trait.specs.View.{row_at, with_row}
use Rattle.module_trait.proofs.KeyLemmas.{block_exact}

pub block_total : IsTotalOrder block_cmp
block_total = then_total (on_total (λ b. b.base) nat_cmp_total) (on_total (λ b. b.len) nat_cmp_total)

self_equal : (p : Block) → block_cmp p p ≡ Equal
self_equal p = ap (λ o. ordering_then o (nat_cmp p.len p.len)) (sym (nat_cmp_is p.base p.base Equal refl)) ∙ sym (nat_cmp_is p.len p.len Equal refl)

-- below the first row there is no row
none_below : (p : Block) (e : Block × ℕ) (rows : List (Block × ℕ)) → IsAscending (e ∷ rows) → block_cmp p e.0 ≡ Less → row_at (e ∷ rows) p ≡ None
none_below p e rows up h = lookup-none (is_at (block_cmp p)) (e ∷ rows) (none_below_head block_total p e rows up h)

-- nor is there one of the first row's prefix behind it
none_behind : (p : Block) (rows : List (Block × ℕ)) → AllByRecursion (λ q. block_cmp p q ≡ Less) (keys_of rows) → row_at rows p ≡ None
none_behind p [] above = refl
none_behind p (e ∷ rows) above = ap (λ o. cond (is_eq o) (Some e.1) (row_at rows p)) above.0 ∙ none_behind p rows above.1

remove_absent : (p : Block) (rows : List (Block × ℕ)) → row_at rows p ≡ None → remove_entry (is_at (block_cmp p)) rows ≡ rows
remove_absent p [] none = refl
remove_absent p (e ∷ rows) none = elim (cases_Bool (is_at (block_cmp p) e.0)) [
  | inl h ↦ (let found = ap (λ b. cond b (Some e.1) (row_at rows p)) h in absurd (let n = sym found ∙ none in cc))
  | inr h ↦
      let rest = remove_absent p rows (sym (ap (λ b. cond b (Some e.1) (row_at rows p)) h) ∙ none) in
      ap (λ b. cond b rows (e ∷ remove_entry (is_at (block_cmp p)) rows)) h ∙ ap (λ xs. e ∷ xs) rest
]

insert_first : (p : Block) (index : ℕ) (rows : List (Block × ℕ)) → AllByRecursion (λ q. block_cmp p q ≡ Less) (keys_of rows) → insert_entry block_cmp rows p index ≡ (p, index) ∷ rows
insert_first p index [] above = refl
insert_first p index (e ∷ rows) above = ap (λ o. match_ordering o ((p, index) ∷ e ∷ rows) ((e.0, index) ∷ rows) (e ∷ insert_entry block_cmp rows p index)) above.0

-- an edit past the first row is one of the rows behind it
past_first : (p : Block) (e : Block × ℕ) (rows : List (Block × ℕ)) (index : Option ℕ) → block_cmp p e.0 ≡ Greater → with_row (e ∷ rows) p index ≡ e ∷ with_row rows p index
past_first p e rows None h = ap (λ o. cond (is_eq o) rows (e ∷ remove_entry (is_at (block_cmp p)) rows)) h
past_first p e rows (Some i) h = ap (λ o. match_ordering o ((p, i) ∷ e ∷ rows) ((e.0, i) ∷ rows) (e ∷ insert_entry block_cmp rows p i)) h

row_past_first : (p : Block) (e : Block × ℕ) (rows : List (Block × ℕ)) → block_cmp p e.0 ≡ Greater → row_at (e ∷ rows) p ≡ row_at rows p
row_past_first p e rows h = ap (λ o. cond (is_eq o) (Some e.1) (row_at rows p)) h

-- what was set is there
pub row_at-set : (rows : List (Block × ℕ)) (p : Block) (index : Option ℕ) → IsAscending rows → row_at (with_row rows p index) p ≡ index
row_at-set [] p None up = refl
row_at-set [] p (Some i) up = ap (λ o. cond (is_eq o) (Some i) None) (self_equal p)
row_at-set (e ∷ rows) p index up = by (block_cmp p e.0) index refl (row_at-set rows p index (sorted_tail block_cmp e.0 (keys_of rows) up))
  where
    by : (o : Ordering) (x : Option ℕ) → block_cmp p e.0 ≡ o → row_at (with_row rows p x) p ≡ x → row_at (with_row (e ∷ rows) p x) p ≡ x
    by Less None h rest = ap (λ xs. row_at xs p) (remove_absent p (e ∷ rows) (none_below p e rows up h)) ∙ none_below p e rows up h
    by Less (Some i) h rest =
        ap (λ o. row_at (match_ordering o ((p, i) ∷ e ∷ rows) ((e.0, i) ∷ rows) (e ∷ insert_entry block_cmp rows p i)) p) h
        ∙ ap (λ o. cond (is_eq o) (Some i) (row_at (e ∷ rows) p)) (self_equal p)
    by Equal None h rest =
        ap (λ o. row_at (cond (is_eq o) rows (e ∷ remove_entry (is_at (block_cmp p)) rows)) p) h
        ∙ none_behind p rows (subst (λ q. AllByRecursion (λ y. block_cmp q y ≡ Less) (keys_of rows)) (sym (block_exact p e.0 h)) (sorted_head block_cmp e.0 (keys_of rows) up))
    by Equal (Some i) h rest =
        ap (λ o. row_at (match_ordering o ((p, i) ∷ e ∷ rows) ((e.0, i) ∷ rows) (e ∷ insert_entry block_cmp rows p i)) p) h
        ∙ ap (λ o. cond (is_eq o) (Some i) (row_at rows p)) h
    by Greater x h rest = ap (λ xs. row_at xs p) (past_first p e rows x h) ∙ row_past_first p e (with_row rows p x) h ∙ rest

-- what was set is set back by what was there
pub set_back : (rows : List (Block × ℕ)) (p : Block) (index : Option ℕ) → IsAscending rows → with_row (with_row rows p index) p (row_at rows p) ≡ rows
set_back [] p None up = refl
set_back [] p (Some i) up = ap (λ o. cond (is_eq o) [] ((p, i) ∷ [])) (self_equal p)
set_back (e ∷ rows) p index up = by (block_cmp p e.0) index refl (set_back rows p index (sorted_tail block_cmp e.0 (keys_of rows) up))
  where
    by : (o : Ordering) (x : Option ℕ) → block_cmp p e.0 ≡ o → with_row (with_row rows p x) p (row_at rows p) ≡ rows → with_row (with_row (e ∷ rows) p x) p (row_at (e ∷ rows) p) ≡ e ∷ rows
    by Less None h rest =
        let none = none_below p e rows up h in
        let same = remove_absent p (e ∷ rows) none in
        ap (with_row (with_row (e ∷ rows) p None) p) none ∙ ap (remove_entry (is_at (block_cmp p))) same ∙ same
    by Less (Some i) h rest =
        ap (with_row (with_row (e ∷ rows) p (Some i)) p) (none_below p e rows up h)
        ∙ ap (λ o. remove_entry (is_at (block_cmp p)) (match_ordering o ((p, i) ∷ e ∷ rows) ((e.0, i) ∷ rows) (e ∷ insert_entry block_cmp rows p i))) h
        ∙ ap (λ o. cond (is_eq o) (e ∷ rows) ((p, i) ∷ remove_entry (is_at (block_cmp p)) (e ∷ rows))) (self_equal p)
    by Equal None h rest =
        let same = block_exact p e.0 h in
        ap (λ o. with_row (with_row (e ∷ rows) p None) p (cond (is_eq o) (Some e.1) (row_at rows p))) h
        ∙ ap (λ o. with_row (cond (is_eq o) rows (e ∷ remove_entry (is_at (block_cmp p)) rows)) p (Some e.1)) h
        ∙ insert_first p e.1 rows (subst (λ q. AllByRecursion (λ y. block_cmp q y ≡ Less) (keys_of rows)) (sym same) (sorted_head block_cmp e.0 (keys_of rows) up))
        ∙ ap (λ q. (q, e.1) ∷ rows) same
    by Equal (Some i) h rest =
        ap (λ o. with_row (with_row (e ∷ rows) p (Some i)) p (cond (is_eq o) (Some e.1) (row_at rows p))) h
        ∙ ap (λ o. with_row (match_ordering o ((p, i) ∷ e ∷ rows) ((e.0, i) ∷ rows) (e ∷ insert_entry block_cmp rows p i)) p (Some e.1)) h
        ∙ ap (λ o. match_ordering o ((p, e.1) ∷ (e.0, i) ∷ rows) ((e.0, e.1) ∷ rows) ((e.0, i) ∷ insert_entry block_cmp rows p e.1)) h
    by Greater x h rest =
        ap (with_row (with_row (e ∷ rows) p x) p) (row_past_first p e rows h)
        ∙ ap (λ xs. with_row xs p (row_at rows p)) (past_first p e rows x h)
        ∙ past_first p e (with_row rows p x) (row_at rows p) h
        ∙ ap (λ xs. e ∷ xs) rest
