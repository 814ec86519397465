-- Where the rows before some edits have indexes of 1 or more, the rows after them have.
use Rattle.std.proofs.Common.{◌≡◌, ◌≢◌, ◌⊎◌, ℕ, ◌≤◌, true, false, cond, List, [], ◌∷◌, Some, All, refl, sym, ◌∙◌, subst, inl, inr}
use Rattle.std.specs.List.{AllByRecursion}
use Rattle.std.specs.Map.{values_of}
use Rattle.std.specs.BTreeMap.{is_at}
use Rattle.std.proofs.lemmas.List.Elements.{All-head, All-tail, All-map, All-weaker, All-nil, All-cons, recursion_from_All}
use Rattle.prefix_width.specs.Prefix.{Block}
use Rattle.prefix_width.specs.Order.{block_cmp}
use Rattle.module_trait.specs.Rows.{HaveIndexes}
use Rattle.module_trait.specs.View.{row_at}
use Rattle.module_trait.specs.Edit.{IndexChange, IsEdit, IsIndex, undone, undone_all, HaveAfter}
use Rattle.module_trait.proofs.KeyLemmas.{cases_block, row_at-other}

-- what is looked up in such rows is an index of 1 or more
index_at : (rows : List (Block × ℕ)) (q : Block) → HaveIndexes rows → IsIndex (row_at rows q)
index_at [] q all = tt
index_at (e ∷ rows) q all =
    let first = All-head (λ i. 1 ≤ i) e.1 (values_of rows) all in
    let rest = index_at rows q (All-tail (λ i. 1 ≤ i) e.1 (values_of rows) all) in
    elim (is_at (block_cmp q) e.0) as (λ b. IsIndex (cond b (Some e.1) (row_at rows q))) [ true ↦ first | false ↦ rest ]

-- rows that are all found have indexes where what is looked up is one
from_lookups : (rows : List (Block × ℕ)) → All (λ r. row_at rows r.0 ≡ Some r.1) rows → ((q : Block) → IsIndex (row_at rows q)) → HaveIndexes rows
from_lookups rows found each =
    All-map (λ i. 1 ≤ i) (λ r. r.1) rows
    (All-weaker (λ r. row_at rows r.0 ≡ Some r.1) (λ r. 1 ≤ r.1) (λ r h. subst IsIndex h (each r.0)) rows found)

-- no edit is of this prefix
abbrev NoneOf : List IndexChange → Block → Type 0
NoneOf [] q = Unit {0}
NoneOf (e ∷ edits) q = (e.prefix ≢ q) × NoneOf edits q

none_or_one : (P : IndexChange → Type 0) (edits : List IndexChange) (q : Block) → AllByRecursion P edits → NoneOf edits q ⊎ ((e : IndexChange) × P e × (e.prefix ≡ q))
none_or_one P [] q all = inl tt
none_or_one P (e ∷ edits) q all = elim (cases_block e.prefix q) [
  | inl same ↦ inr (e, all.0, same)
  | inr other ↦ elim (none_or_one P edits q all.1) [
    | inl none ↦ inl (other, none)
    | inr one ↦ inr one
  ]
]

unedited : (edits : List IndexChange) (rows : List (Block × ℕ)) (q : Block) → NoneOf edits q → row_at (undone_all edits rows) q ≡ row_at rows q
unedited [] rows q none = refl
unedited (e ∷ edits) rows q none = unedited edits (undone e rows) q none.1 ∙ row_at-other rows e.prefix q e.before none.0

-- an edit leaves an index of 1 or more at its prefix, or none
abbrev Leaves : List (Block × ℕ) → IndexChange → Type 0
Leaves rows e = IsIndex (row_at rows e.prefix)

leaves : (rows : List (Block × ℕ)) (edits : List IndexChange) → All (λ e. IsEdit e.before e.after) edits → HaveAfter edits rows → AllByRecursion (Leaves rows) edits
leaves rows edits edited after = go edits (recursion_from_All (λ e. IsEdit e.before e.after) edits edited) (recursion_from_All (λ e. row_at rows e.prefix ≡ e.after) edits after)
  where
    go : (es : List IndexChange) → AllByRecursion (λ e. IsEdit e.before e.after) es → AllByRecursion (λ e. row_at rows e.prefix ≡ e.after) es → AllByRecursion (Leaves rows) es
    go [] h k = tt
    go (e ∷ es) h k = (subst IsIndex (sym k.0) h.0.2, go es h.1 k.1)

pub indexes_after_all : (edits : List IndexChange) (rows : List (Block × ℕ)) → HaveIndexes (undone_all edits rows) → All (λ e. IsEdit e.before e.after) edits → HaveAfter edits rows → All (λ r. row_at rows r.0 ≡ Some r.1) rows → HaveIndexes rows
indexes_after_all edits rows before edited after found =
    from_lookups rows found (λ q. elim (none_or_one (Leaves rows) edits q (leaves rows edits edited after)) [
      | inl none ↦ subst IsIndex (unedited edits rows q none) (index_at (undone_all edits rows) q before)
      | inr one ↦ subst (λ p. IsIndex (row_at rows p)) one.2 one.1
    ])

pub indexes_after : (edit : IndexChange) (rows : List (Block × ℕ)) → HaveIndexes (undone edit rows) → IsEdit edit.before edit.after → row_at rows edit.prefix ≡ edit.after → All (λ r. row_at rows r.0 ≡ Some r.1) rows → HaveIndexes rows
indexes_after edit rows before edited after found =
    indexes_after_all (edit ∷ []) rows before
    (All-cons (λ e. IsEdit e.before e.after) edit [] edited (All-nil (λ e. IsEdit e.before e.after)))
    (All-cons (λ e. row_at rows e.prefix ≡ e.after) edit [] after (All-nil (λ e. row_at rows e.prefix ≡ e.after)))
    found
