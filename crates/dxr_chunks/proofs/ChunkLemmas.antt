-- Chunks and prefixes, and what a chunk is made of.
use Rattle.std.proofs.Common.{◌≡◌, ◌≢◌, ◌⊎◌, ℕ, ◌+◌, ◌-◌, ◌*◌, ◌/◌, ◌^◌, ◌<◌, ◌≤◌, Bool, true, false, cond, List, [], ◌∷◌, ◌++◌, Option, Some, None, length, take, get_or, refl, sym, ap, ◌∙◌, arith, inl, inr, subst}
use Rattle.std.specs.List.{slice_get}
use Rattle.std.specs.Map.{keys_of}
use Rattle.std.specs.declared.cmp.Ordering.{Ordering}
use Rattle.std.specs.declared.cmp.Ordering.TheVariants.{Less, Equal, Greater}
use Rattle.std.specs.Map.{remove_entry}
use Rattle.std.specs.BTreeMap.{insert_entry, is_at}
use Rattle.std.specs.Ordering.{match_ordering}
use Rattle.std.proofs.lemmas.Bool.{cases_Bool, cases_eq, cases_lt, eq-eqb}
use Rattle.std.proofs.lemmas.List.{map-append, take_more}
use Rattle.std.proofs.lemmas.Nat.{pow_pos}
use Rattle.prefix_width.specs.Prefix.{Block, IsBlock, contains, last_of, masked_block}
use Rattle.prefix_width.specs.Longest.{longest, longer, only_if_in}
use Rattle.prefix_width.specs.Order.{block_cmp}
use Rattle.prefix_width.proofs.RangeLemmas.{in_run}
use Rattle.module_trait.specs.Edit.{IndexChange, undone, undone_all}
use Rattle.module_trait.specs.Rows.{AreBlocks, index_of}
use Rattle.module_trait.specs.Starts.{AreRight, IsIn, IsUp, index_at, starts_of}
use Rattle.module_trait.proofs.BeforeLemmas.{in-right}
use Rattle.module_trait.specs.View.{with_row}
use Rattle.module_trait.proofs.KeyLemmas.{at_is, block_exact}
use Rattle.dxr_chunks.specs.declared.made.Made.{Made}
use Rattle.dxr_chunks.specs.declared.made.Made.TheVariants.{Index, Fragments}
use Rattle.dxr_chunks.specs.Chunk.{AreMade, AreRest, IsMade}
use Rattle.dxr_chunks.specs.Fragments.{AreFragments, IsDirect, index_in}
use Rattle.dxr_chunks.specs.Making.{AddsRun}
use Rattle.dxr_chunks.specs.Touch.{IsTouched, Touches}
use Rattle.dxr_chunks.proofs.ApplyLemmas.{made_other, made_push}
use Rattle.dxr_chunks.proofs.CellLemmas.{first_cell, up_cells}
use Rattle.dxr_chunks.proofs.RunLemmas.{cells_answer}

-- the prefix of a chunk contains its addresses
inside_32 : (k x : ℕ) → x < 2 ^ 16 → contains 32 (masked_block 32 (k * 2 ^ 16) 16) (k * 2 ^ 16 + x) ≡ true
inside_32 k x fits = (let e : (k * 65536 + x) / 65536 ≡ k * 65536 / 65536 * 65536 / 65536 = omega (arith, fits) in eq-eqb _ _ e)

pub inside : (w k base x : ℕ) → w ≡ 32 → base ≡ k * 2 ^ 16 → x < 2 ^ 16 → contains w (masked_block w base 16) (k * 2 ^ 16 + x) ≡ true
inside w k base x is at fits =
    subst (λ n. contains n (masked_block n base 16) (k * 2 ^ 16 + x) ≡ true) (sym is)
    (subst (λ b. contains 32 (masked_block 32 b 16) (k * 2 ^ 16 + x) ≡ true) (sym at) (inside_32 k x fits))

-- a prefix that contains an address touches its chunk
pub touching : (p : Block) (k x : ℕ) → IsBlock 32 p → x < 2 ^ 16 → contains 32 p (k * 2 ^ 16 + x) ≡ true → Touches p k
touching p k x ip fits holds =
    let run = in_run 32 p (k * 2 ^ 16 + x) ip holds in
    let pos = pow_pos (32 - p.len) in
    (omega (arith, run, fits), omega (arith, run, fits, pos))

-- ---- a row that does not contain an address

module _ (w : ℕ) (p : Block) (a : ℕ) (out : contains w p a ≡ false) where
  passed : (q : Block) (i : ℕ) → p ≡ q → only_if_in w a (q, i) ≡ None
  passed q i same = ap (λ (x : Block). cond (contains w x a) (Some (q, i)) None) (sym same) ∙ ap (λ b. cond b (Some (q, i)) None) out

  pub longest_outside : (rows : List (Block × ℕ)) (index : Option ℕ) → longest w (with_row rows p index) a ≡ longest w rows a
  longest_outside [] None = refl
  longest_outside [] (Some i) = ap (λ o. longer o None) (passed p i refl)
  longest_outside (e ∷ rows) None = elim (cases_Bool (is_at (block_cmp p) e.0)) [
    | inl h ↦
        ap (λ b. longest w (cond b rows (e ∷ remove_entry (is_at (block_cmp p)) rows)) a) h
        ∙ sym (ap (λ o. longer o (longest w rows a)) (passed e.0 e.1 (at_is p e.0 h)))
    | inr h ↦
        ap (λ b. longest w (cond b rows (e ∷ remove_entry (is_at (block_cmp p)) rows)) a) h
        ∙ ap (longer (only_if_in w a e)) (longest_outside rows None)
  ]
  longest_outside (e ∷ rows) (Some i) = by (block_cmp p e.0) refl (longest_outside rows (Some i))
    where
      by : (o : Ordering) → block_cmp p e.0 ≡ o → longest w (insert_entry block_cmp rows p i) a ≡ longest w rows a → longest w (match_ordering o ((p, i) ∷ e ∷ rows) ((e.0, i) ∷ rows) (e ∷ insert_entry block_cmp rows p i)) a ≡ longest w (e ∷ rows) a
      by Less h rest = ap (λ o. longer o (longest w (e ∷ rows) a)) (passed p i refl)
      by Equal h rest =
          let same = block_exact p e.0 h in
          ap (λ o. longer o (longest w rows a)) (passed e.0 i same) ∙ sym (ap (λ o. longer o (longest w rows a)) (passed e.0 e.1 same))
      by Greater h rest = ap (longer (only_if_in w a e)) rest

-- ---- what a chunk is made of

module _ (w : ℕ) (rows : List (Block × ℕ)) (cells : List (ℕ × ℕ)) (is : w ≡ 32) (starts : keys_of cells ≡ starts_of w rows) where
  starts_32 : keys_of cells ≡ starts_of 32 rows
  starts_32 = subst (λ n. keys_of cells ≡ starts_of n rows) is starts

  pub up_at : IsUp (keys_of cells)
  up_at = up_cells rows cells starts_32

  pub first_at : slice_get (keys_of cells) 0 ≡ Some 0
  first_at = first_cell rows cells starts_32

  pub answer_at : (a : ℕ) → a < 2 ^ 32 → AreBlocks w rows → AreRight w rows cells → index_in cells a ≡ index_at 32 rows a
  answer_at a fits blocks right =
      cells_answer 32 rows cells a fits (subst (λ n. AreBlocks n rows) is blocks) starts_32 up_at first_at (subst (λ n. AreRight n rows cells) is right)

-- what is made of fragments that are added to none
pub made_run : (cells run seen : List (ℕ × ℕ)) (k : ℕ) (made : Made) → AddsRun cells k [] run → seen ≡ run → ((answer : ℕ → ℕ) (k : ℕ) → AreFragments answer k seen → IsMade answer k made) → IsMade (index_in cells) k made
made_run cells run seen k made adds same each = each (index_in cells) k (subst (AreFragments (index_in cells) k) (sym (same ∙ adds.added)) adds.fragments)

-- what is made for a chunk of the cells of rows that decide its answers
pub made_at : (w : ℕ) (view rows : List (Block × ℕ)) (cells : List (ℕ × ℕ)) (k : ℕ) (made : Made) → w ≡ 32 → k < 2 ^ 16 → AreBlocks w rows → keys_of cells ≡ starts_of w rows → AreRight w rows cells → ((x : ℕ) → x < 2 ^ 16 → index_at 32 rows (k * 2 ^ 16 + x) ≡ index_at 32 view (k * 2 ^ 16 + x)) → IsMade (index_in cells) k made → IsMade (index_at 32 view) k made
made_at w view rows cells k made is fits blocks starts right same there =
    made_other (index_in cells) (index_at 32 view) k made
    (λ x h. answer_at w rows cells is starts (k * 2 ^ 16 + x) (omega (arith, fits, h)) blocks right ∙ same x h)
    there

-- ---- lists of chunks

pub in_left : (xs ys : List ℕ) (t : ℕ) → IsIn t xs → IsIn t (xs ++ ys)
in_left [] ys t is = absurd is
in_left (x ∷ xs) ys t is = elim is [ inl e ↦ inl e | inr later ↦ inr (in_left xs ys t later) ]

-- ---- chunks that have an index

index_of_made : Made → ℕ
index_of_made (Index i) = i
index_of_made (Fragments run) = 1

cases_none : (made : Made) → (made ≡ Index 0) ⊎ (made ≢ Index 0)
unfolding index_of_made
cases_none (Index i) = elim (cases_eq i 0) [ inl e ↦ inl (ap Index e) | inr other ↦ inr (λ e. other (ap index_of_made e)) ]
cases_none (Fragments run) = inr (λ e. (let one : 1 ≡ 0 = ap index_of_made e in absurd (omega (arith, one))))

module _ (answer : ℕ → ℕ) (k : ℕ) (made : Made) (old new : List (ℕ × Made)) (none : made ≡ Index 0 → new ≡ old) (some : made ≢ Index 0 → new ≡ old ++ (k, made) ∷ []) (here : IsMade answer k made) where
  pub made_more : k < 2 ^ 16 → AreMade answer old → AreMade answer new
  made_more fits all = elim (cases_none made) [
    | inl e ↦ subst (λ (xs : List (ℕ × Made)). AreMade answer xs) (sym (none e)) all
    | inr e ↦ subst (λ (xs : List (ℕ × Made)). AreMade answer xs) (sym (some e)) (made_push answer old (k, made) all fits here)
  ]

  rest_without : made ≡ Index 0 → AreRest answer k old → AreRest answer (k + 1) old
  rest_without e rest = λ j h out. elim (cases_lt j k) [
    | inl less ↦ rest j less out
    | inr ge ↦ (let is : k ≡ j = omega (arith, h, ge) in subst (λ n. IsDirect answer n 0) is (subst (IsMade answer k) e here))
  ]

  rest_with : AreRest answer k old → AreRest answer (k + 1) (old ++ (k, made) ∷ [])
  rest_with rest = λ j h out.
      let keys : keys_of (old ++ (k, made) ∷ []) ≡ keys_of old ++ k ∷ [] = map-append (λ e. e.0) old ((k, made) ∷ []) in
      let apart : IsIn j (keys_of old ++ k ∷ []) → ⊥ = λ is. out (subst (IsIn j) (sym keys) is) in
      elim (cases_lt j k) [
        | inl less ↦ rest j less (λ is. apart (in_left (keys_of old) (k ∷ []) j is))
        | inr ge ↦ absurd (apart (in-right (keys_of old) (k ∷ []) j (inl (omega (arith, h, ge)))))
      ]

  pub rest_more : AreRest answer k old → AreRest answer (k + 1) new
  rest_more rest = elim (cases_none made) [
    | inl e ↦ subst (AreRest answer (k + 1)) (sym (none e)) (rest_without e rest)
    | inr e ↦ subst (AreRest answer (k + 1)) (sym (some e)) (rest_with rest)
  ]

pub keys_more : (news : List (ℕ × Made)) (made : Made) (chunks : List ℕ) (i : ℕ) → i < length chunks → keys_of news ≡ take i chunks → keys_of (news ++ (get_or chunks i 0, made) ∷ []) ≡ take (i + 1) chunks
keys_more news made chunks i within keys =
    map-append (λ e. e.0) news ((get_or chunks i 0, made) ∷ []) ∙ ap (λ ks. ks ++ get_or chunks i 0 ∷ []) keys ∙ sym (take_more chunks i 0 within)
