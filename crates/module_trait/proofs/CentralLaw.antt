-- Between two neighbouring starts the longest row doesn't change.
use Rattle.std.proofs.Common.{◌≡◌, ◌⊎◌, ℕ, ◌^◌, ◌<◌, ◌≤◌, cond, List, [], ◌∷◌, Some, None, refl, sym, ap, ◌∙◌, arith, inl, inr}
use Rattle.std.specs.Map.{keys_of}
use Rattle.std.proofs.lemmas.Bool.{cases_Bool, both_ways, cases_lt}
use Rattle.std.proofs.lemmas.List.Elements.{All-head, All-tail}
use Rattle.prefix_width.specs.Prefix.{Block, IsBlock, contains}
use Rattle.prefix_width.specs.Longest.{longest, longer, only_if_in}
use Rattle.module_trait.specs.Rows.{AreBlocks}
use Rattle.module_trait.proofs.BlockLemmas.{in_run, from_run}
use Rattle.module_trait.specs.Starts.{end_of}
use Rattle.module_trait.proofs.StartLemmas.{IsEdge, IsStart}

-- no start lies above s, up to a
abbrev pub NoneBetween : ℕ → List (Block × ℕ) → ℕ → ℕ → Type 0
NoneBetween w rows s a = (t : ℕ) → IsStart w rows t → (t ≤ s) ⊎ (a < t)

-- a prefix with neither edge between them contains both or neither
same_in : (w : ℕ) (p : Block) (s a : ℕ) → IsBlock w p → s ≤ a → (p.base ≤ s) ⊎ (a < p.base) → (end_of w p ≤ s) ⊎ (a < end_of w p) → contains w p a ≡ contains w p s
same_in w p s a block h first last =
    elim (cases_Bool (contains w p a)) [
      | inl ina ↦
          let r = in_run w p a block ina in
          ina ∙ sym (from_run w p s block (elim first [ inl x ↦ x | inr x ↦ absurd (omega arith) ]) (omega arith))
      | inr outa ↦
          outa ∙ elim (cases_Bool (contains w p s)) [
            | inr outs ↦ sym outs
            | inl ins ↦
                let r = in_run w p s block ins in
                absurd (both_ways _ outa (from_run w p a block (omega arith) (elim last [ inl x ↦ absurd (omega arith) | inr x ↦ x ])))
          ]
    ]

same_rows : (w : ℕ) (rows : List (Block × ℕ)) (s a : ℕ) → AreBlocks w rows → s ≤ a → a < 2 ^ w → ((t : ℕ) → IsEdge w rows t → (t ≤ s) ⊎ (a < t)) → longest w rows a ≡ longest w rows s
same_rows w [] s a blocks h fits none = refl
same_rows w (r ∷ rows) s a blocks h fits none =
    let block = All-head (IsBlock w) r.0 (keys_of rows) blocks in
    let first = none r.0.base (inl refl) in
    let last : (end_of w r.0 ≤ s) ⊎ (a < end_of w r.0) = elim (cases_lt (end_of w r.0) (2 ^ w)) [ inl x ↦ none (end_of w r.0) (inr (inl (refl, x))) | inr x ↦ inr (omega arith) ] in
    let same = same_in w r.0 s a block h first last in
    let rest = same_rows w rows s a (All-tail (IsBlock w) r.0 (keys_of rows) blocks) h fits (λ t start. none t (inr (inr start))) in
    ap (λ b. longer (cond b (Some r) None) (longest w rows a)) same ∙ ap (longer (only_if_in w s r)) rest

pub same_between : (w : ℕ) (rows : List (Block × ℕ)) (s a : ℕ) → AreBlocks w rows → s ≤ a → a < 2 ^ w → NoneBetween w rows s a → longest w rows a ≡ longest w rows s
same_between w rows s a blocks h fits none = same_rows w rows s a blocks h fits (λ t edge. none t (inr edge))
