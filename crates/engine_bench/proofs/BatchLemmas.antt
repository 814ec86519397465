-- One edit more in a batch.
use Rattle.std.proofs.Common.{◌≡◌, ◌≢◌, ◌∙◌, ◌∷◌, ◌<◌, ℕ, List, Option, All, length, refl, sym, ap, subst}
use Rattle.std.specs.Prelude.{slice_index_or}
use Rattle.std.proofs.lemmas.List.Elements.{All-cons}
use Rattle.std.proofs.lemmas.List.Kept.{AllPairs-cons}
use Rattle.prefix_width.specs.Prefix.{Block}
use Rattle.module_trait.specs.Edit.{IndexChange, undone_all}
use Rattle.module_trait.specs.Rows.{IsAscending}
use Rattle.module_trait.specs.View.{row_at, with_row}
use Rattle.module_trait.proofs.KeyLemmas.{row_at-other}
use Rattle.module_trait.proofs.UndoLemmas.{row_at-set, set_back}
use Rattle.engine_bench.specs.Batch.{IsBatch}

-- an edit of a prefix
abbrev edit_of : Block → Option ℕ → Option ℕ → IndexChange
edit_of p before after = record { prefix = p; before = before; after = after }

-- an edit before it is of another prefix, since it would have left the index there
one_more : (index : Option ℕ) (old rows : List (Block × ℕ)) (edits : List IndexChange) (p : Block) → IsAscending rows → IsBatch index old rows edits → row_at rows p ≢ index → IsBatch index old (with_row rows p index) (edit_of p (row_at rows p) index ∷ edits)
one_more index old rows edits p up batch differ =
    let e = edit_of p (row_at rows p) index in
    let other : (i : ℕ) (d : IndexChange) → i < length edits → p ≢ (slice_index_or edits i d).prefix =
    λ i d h is. differ (ap (row_at rows) is ∙ batch.after i d h ∙ batch.same i d h) in
    record {
      distinct = AllPairs-cons (λ x y. x.prefix ≢ y.prefix) e edits other batch.distinct;
      same = All-cons (λ (x : IndexChange). x.after ≡ index) e edits refl batch.same;
      after =
          All-cons (λ (x : IndexChange). row_at (with_row rows p index) x.prefix ≡ x.after) e edits (row_at-set rows p index up)
          (λ i d h. row_at-other rows p (slice_index_or edits i d).prefix index (other i d h) ∙ batch.after i d h);
      before = ap (undone_all edits) (set_back rows p index up) ∙ batch.before;
    }

-- the same of what a call leaves
pub one_edit : (index : Option ℕ) (old rows new : List (Block × ℕ)) (edits news : List IndexChange) (p : Block) (before : Option ℕ) (e : IndexChange) → IsAscending rows → before ≡ row_at rows p → e ≡ edit_of p before index → before ≢ index → new ≡ with_row rows p index → news ≡ e ∷ edits → IsBatch index old rows edits → IsBatch index old new news
one_edit index old rows new edits news p before e up was is differ set put batch =
    let named : e ≡ edit_of p (row_at rows p) index = is ∙ ap (λ b. edit_of p b index) was in
    let more = one_more index old rows edits p up batch (λ h. differ (was ∙ h)) in
    let on_new = subst (λ xs. IsBatch index old xs (edit_of p (row_at rows p) index ∷ edits)) (sym set) more in
    subst (IsBatch index old new) (sym (put ∙ ap (λ x. x ∷ edits) named)) on_new
