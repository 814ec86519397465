-- Views in which one prefix was set, or two.
use Rattle.std.proofs.Common.{◌≡◌, ◌≢◌, ℕ, List, [], ◌∷◌, Option, All, ap, sym, ◌∙◌}
use Rattle.std.proofs.lemmas.List.Elements.{All-cons, All-nil}
use Rattle.prefix_width.specs.Prefix.{Block}
use Rattle.module_trait.specs.Edit.{IndexChange, AreOfDistinct, HaveAfter, undone, undone_all}
use Rattle.module_trait.specs.Rows.{IsAscending}
use Rattle.module_trait.specs.View.{row_at, with_row}
use Rattle.module_trait.proofs.KeyLemmas.{row_at-other}
use Rattle.module_trait.proofs.UndoLemmas.{row_at-set, set_back}

-- an edit of what was set
pub record IsSet (old new : List (Block × ℕ)) (e : IndexChange) : Type 0 where
  pub there : row_at new e.prefix ≡ e.after
  pub back : undone e new ≡ old

pub set_once : (old new : List (Block × ℕ)) (p : Block) (before after : Option ℕ) (e : IndexChange) → IsAscending old → new ≡ with_row old p after → before ≡ row_at old p → e ≡ record { prefix = p; before = before; after = after } → IsSet old new e
set_once old new p before after e up set was is = record {
  there = ap (λ (x : IndexChange). row_at new x.prefix) is ∙ ap (λ xs. row_at xs p) set ∙ row_at-set old p after up ∙ sym (ap (λ (x : IndexChange). x.after) is);
  back = ap (λ (x : IndexChange). undone x new) is ∙ ap (λ xs. with_row xs p before) set ∙ ap (with_row (with_row old p after) p) was ∙ set_back old p after up;
}

pub have_one : (new : List (Block × ℕ)) (e : IndexChange) → row_at new e.prefix ≡ e.after → HaveAfter (e ∷ []) new
have_one new e there = All-cons (λ (x : IndexChange). row_at new x.prefix ≡ x.after) e [] there (All-nil (λ (x : IndexChange). row_at new x.prefix ≡ x.after))

pub have_two : (old mid new : List (Block × ℕ)) (e d : IndexChange) → e.prefix ≢ d.prefix → IsSet old mid e → IsSet mid new d → new ≡ with_row mid d.prefix d.after → HaveAfter (d ∷ e ∷ []) new
have_two old mid new e d other first second set =
    All-cons (λ (x : IndexChange). row_at new x.prefix ≡ x.after) d (e ∷ []) second.there
    (have_one new e (ap (λ xs. row_at xs e.prefix) set ∙ row_at-other mid d.prefix e.prefix d.after (λ h. other (sym h)) ∙ first.there))
