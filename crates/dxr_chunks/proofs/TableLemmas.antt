-- What a table stands for when it is built, and after a batch.
use Rattle.std.proofs.Common.{◌≡◌, ◌≢◌, ◌⊎◌, ℕ, ◌+◌, ◌*◌, ◌^◌, ◌<◌, ◌≤◌, true, false, List, [], ◌∷◌, Option, Some, None, All, length, unwrap_or, refl, sym, ap, ◌∙◌, arith, inl, inr, subst}
use Rattle.std.specs.List.{AllByRecursion}
use Rattle.std.specs.Map.{keys_of}
use Rattle.std.proofs.lemmas.Bool.{cases_Bool, cases_eq}
use Rattle.std.proofs.lemmas.List.Elements.{All-head, All-tail}
use Rattle.prefix_width.specs.Prefix.{Block, IsBlock, contains}
use Rattle.prefix_width.specs.Longest.{longest}
use Rattle.module_trait.specs.Edit.{IndexChange, AreOfDistinct, HaveAfter, IsEdit, undone, undone_all}
use Rattle.module_trait.specs.Rows.{AreBlocks, HaveIndexes, IsAscending, index_of}
use Rattle.module_trait.specs.Starts.{AreRight, IsIn, index_at, starts_of}
use Rattle.module_trait.proofs.EditLemmas.{indexes_after_all}
use Rattle.module_trait.proofs.UpLemmas.{in-all}
use Rattle.dxr_chunks.specs.declared.cell.Cell.{Cell}
use Rattle.dxr_chunks.specs.declared.cell.Cell.TheVariants.{Direct, Run}
use Rattle.dxr_chunks.specs.declared.made.Made.{Made}
use Rattle.dxr_chunks.specs.Chunk.{AreMade, IsChunk, IsRun}
use Rattle.dxr_chunks.specs.Fragments.{index_in}
use Rattle.dxr_chunks.specs.Table.{AreRightChunks, Chunked, IsChunksOf, IsLinked, IsRemade, IsSameAs, KeepsUntouched, cell_at, run_at}
use Rattle.dxr_chunks.specs.Touch.{AreTouched, IsTouched}
use Rattle.dxr_chunks.proofs.ApplyLemmas.{chunk_kept, kept_same, linked_alike}
use Rattle.dxr_chunks.proofs.ChunkLemmas.{answer_at, longest_outside, touching}
use Rattle.dxr_chunks.proofs.RowLemmas.{row_found}

-- ---- answers

-- a chunk that answers as one function does answers as another that is the same at its addresses
pub chunk_other : (f g : ℕ → ℕ) (k : ℕ) (cell : Option Cell) (runs : ℕ → Option (List (ℕ × ℕ))) → ((x : ℕ) → x < 2 ^ 16 → f (k * 2 ^ 16 + x) ≡ g (k * 2 ^ 16 + x)) → IsChunk f k cell runs → IsChunk g k cell runs
chunk_other f g k None runs same is = is
chunk_other f g k (Some (Direct i)) runs same is = λ x fits. is x fits ∙ same x fits
chunk_other f g k (Some (Run key)) runs same is = by (runs key) is
  where
    by : (r : Option (List (ℕ × ℕ))) → IsRun f k r → IsRun g k r
    by None h = h
    by (Some run) h = (h.0, record { first = h.1.first; alternating = h.1.alternating; few = h.1.few; right = λ x fits. h.1.right x fits ∙ same x fits })

-- a table that answers as the cells of rows do stands for the rows
pub stands_for : (w : ℕ) (rows : List (Block × ℕ)) (cells : List (ℕ × ℕ)) (table : Chunked) → w ≡ 32 → AreBlocks w rows → HaveIndexes rows → keys_of cells ≡ starts_of w rows → AreRight w rows cells → IsLinked table → AreRightChunks (index_in cells) table → IsChunksOf rows table
stands_for w rows cells table is blocks indexes starts right linked chunks = record {
  blocks = subst (λ n. AreBlocks n rows) is blocks;
  indexed = indexes;
  linked = linked;
  chunks = λ k fits. chunk_other (index_in cells) (index_at 32 rows) k (cell_at table k) (run_at table) (λ x h. answer_at w rows cells is starts (k * 2 ^ 16 + x) (omega (arith, fits, h)) blocks right) (chunks k fits);
}

-- ---- edits that do not touch a chunk

not_in : (edits : List IndexChange) (k x : ℕ) → AllByRecursion (λ e. IsBlock 32 e.prefix) edits → x < 2 ^ 16 → (IsTouched edits k → ⊥) → AllByRecursion (λ e. contains 32 e.prefix (k * 2 ^ 16 + x) ≡ false) edits
not_in [] k x blocks fits out = tt
not_in (e ∷ edits) k x blocks fits out = (
  elim (cases_Bool (contains 32 e.prefix (k * 2 ^ 16 + x))) [
    | inl h ↦ absurd (out (inl (touching e.prefix k x blocks.0 fits h)))
    | inr h ↦ h
  ],
  not_in edits k x blocks.1 fits (λ touched. out (inr touched)),
)

unedited : (edits : List IndexChange) (rows : List (Block × ℕ)) (a : ℕ) → AllByRecursion (λ e. contains 32 e.prefix a ≡ false) edits → longest 32 (undone_all edits rows) a ≡ longest 32 rows a
unedited [] rows a out = refl
unedited (e ∷ edits) rows a out = unedited edits (undone e rows) a out.1 ∙ longest_outside 32 e.prefix a out.0 rows e.before

-- leave its answers
pub same_answers : (edits : List IndexChange) (view : List (Block × ℕ)) (k x : ℕ) → AllByRecursion (λ e. IsBlock 32 e.prefix) edits → x < 2 ^ 16 → (IsTouched edits k → ⊥) → index_at 32 (undone_all edits view) (k * 2 ^ 16 + x) ≡ index_at 32 view (k * 2 ^ 16 + x)
same_answers edits view k x blocks fits out = ap (λ o. unwrap_or (index_of o) 0) (unedited edits view (k * 2 ^ 16 + x) (not_in edits k x blocks fits out))

-- ---- a batch

pub cases_in : (k : ℕ) (ks : List ℕ) → IsIn k ks ⊎ (IsIn k ks → ⊥)
cases_in k [] = inr (λ is. is)
cases_in k (x ∷ ks) = elim (cases_eq k x) [
  | inl e ↦ inl (inl e)
  | inr other ↦ elim (cases_in k ks) [
    | inl is ↦ inl (inr is)
    | inr out ↦ inr (λ is. elim is [ inl e ↦ other e | inr later ↦ out later ])
  ]
]

module _ (edits : List IndexChange) (view : List (Block × ℕ)) (chunks : List ℕ) (news : List (ℕ × Made)) (old new : Chunked) (remade : IsRemade old new news) (keys : keys_of news ≡ chunks) (touched : AreTouched 4096 edits chunks) where
  -- a chunk that no edit touches keeps its cell and its run
  pub untouched_kept : KeepsUntouched edits old new
  untouched_kept = λ k fits out. remade.others k fits (λ is. out (in-all (IsTouched edits) chunks k touched.sound (subst (IsIn k) keys is)))

  -- so the table stands for the view's rows
  pub remade_table : length chunks ≤ 4096 → AreMade (index_at 32 view) news → IsChunksOf (undone_all edits view) old → AllByRecursion (λ e. IsBlock 32 e.prefix) edits → All (λ e. IsEdit e.before e.after) edits → HaveAfter edits view → AreBlocks 32 view → IsAscending view → IsChunksOf view new
  remade_table few made before prefixes edited after blocks up = record {
    blocks = blocks;
    indexed = indexes_after_all edits view before.indexed edited after (row_found view up);
    linked = remade.linked;
    chunks = λ k fits. elim (cases_in k chunks) [
      | inl is ↦ remade.made (index_at 32 view) made k (subst (IsIn k) (sym keys) is)
      | inr out ↦
          let kept = remade.others k fits (λ is. out (subst (IsIn k) keys is)) in
          chunk_other (index_at 32 (undone_all edits view)) (index_at 32 view) k (cell_at new k) (run_at new)
          (λ x h. same_answers edits view k x prefixes h (λ t. out (touched.complete few k t)))
          (chunk_kept (index_at 32 (undone_all edits view)) k (cell_at old) (cell_at new) (run_at old) (run_at new) kept (before.chunks k fits))
    ];
  }

-- ---- copies

pub same_table : (rows : List (Block × ℕ)) (old new : Chunked) → IsSameAs old new → IsChunksOf rows old → IsChunksOf rows new
same_table rows old new same stands = record {
  blocks = stands.blocks;
  indexed = stands.indexed;
  linked = linked_alike old new same stands.linked;
  chunks = λ k fits. chunk_kept (index_at 32 rows) k (cell_at old) (cell_at new) (run_at old) (run_at new) (kept_same k (cell_at old) (cell_at new) (run_at old) (run_at new) (same.cells k) same.runs) (stands.chunks k fits);
}
