-- What a chunk answers, read from the table.
use Rattle.std.proofs.Common.{◌≡◌, ℕ, ◌+◌, ◌*◌, ◌/◌, ◌%◌, ◌^◌, ◌<◌, ◌≤◌, List, [], ◌∷◌, Some, refl, sym, ap, ◌∙◌, arith, inl, inr, subst, length}
use Rattle.std.specs.List.{slice_get, slice_index, slice_range}
use Rattle.std.specs.Map.{keys_of}
use Rattle.std.proofs.lemmas.List.Edits.{between_none, length-between}
use Rattle.std.proofs.lemmas.List.Elements.{All-from_recursion}
use Rattle.std.proofs.lemmas.Option.{get_or_from_slice_get}
use Rattle.prefix_width.specs.Prefix.{Block, IsBlock}
use Rattle.module_trait.specs.Rows.{AreBlocks, HaveIndexes}
use Rattle.module_trait.specs.Starts.{AreRight, IsUp, index_at, starts_of, IsIn}
use Rattle.module_trait.proofs.StartLemmas.{in-starts, up-starts}
use Rattle.module_trait.proofs.UpLemmas.{in-all}
use Rattle.dxr_chunks.proofs.CellLemmas.{first_cell, up_cells}
use Rattle.dxr_chunks.proofs.RunLemmas.{cells_answer}
use Rattle.dxr_table.specs.Dxr.{AreRightChunks, Dxr, HasChunks, IsChunk, run_of, IsDxrOf}
use Rattle.dxr_chunks.specs.Fragments.{AreFragments, index_in}

module _ (answer : ℕ → ℕ) (table : Dxr) (k first end : ℕ) (chunk : IsChunk answer k (slice_index table.indexes k) (run_of table k)) (from : slice_get table.firsts k ≡ Some first) (to : slice_get table.firsts (k + 1) ≡ Some end) where
  run_is : run_of table k ≡ slice_range table.fragments first end
  run_is =
      ap (λ n. slice_range table.fragments n (slice_index table.firsts (k + 1))) (get_or_from_slice_get table.firsts k first 0 from)
      ∙ ap (slice_range table.fragments first) (get_or_from_slice_get table.firsts (k + 1) end 0 to)

  -- a chunk with no fragment
  pub direct_answer : (index offset : ℕ) → first ≡ end → slice_get table.indexes k ≡ Some index → offset < 2 ^ 16 → index ≡ answer (k * 2 ^ 16 + offset)
  direct_answer index offset none at fits = elim chunk [
    | inl direct ↦ sym (get_or_from_slice_get table.indexes k index 0 at) ∙ direct.1 offset fits
    | inr run ↦
        let empty : run_of table k ≡ [] = run_is ∙ ap (slice_range table.fragments first) (sym none) ∙ between_none table.fragments first in
        absurd (let two = run.0 in let len = ap length empty in omega (arith, two, len))
  ]

  -- one with a run
  pub run_answer : first < end → end ≤ length table.fragments → AreFragments answer k (slice_range table.fragments first end)
  run_answer some within = elim chunk [
    | inl direct ↦
        let len = length-between table.fragments first end within in
        absurd (let none = ap length (sym run_is ∙ direct.0) in omega (arith, some, len, none))
    | inr run ↦ subst (AreFragments answer k) run_is run.1
  ]

-- where each run begins and ends
pub run_ends : (table : Dxr) (k first end : ℕ) → HasChunks (2 ^ 16) table → k < 2 ^ 16 → slice_get table.firsts k ≡ Some first → slice_get table.firsts (k + 1) ≡ Some end → (first ≤ end) × (end ≤ length table.fragments)
run_ends table k first end shape fits from to =
    let is = get_or_from_slice_get table.firsts k first 0 from in
    let is' = get_or_from_slice_get table.firsts (k + 1) end 0 to in
    let le = shape.ordered k fits in
    let within = shape.within (k + 1) (omega (arith, fits)) in
    (omega (arith, is, is', le), omega (arith, is', within))

-- chunks that answer as one function answer as another that is the same at every address
pub same_chunks : (f g : ℕ → ℕ) (table : Dxr) → ((a : ℕ) → a < 2 ^ 32 → f a ≡ g a) → AreRightChunks f (2 ^ 16) table → AreRightChunks g (2 ^ 16) table
same_chunks f g table same chunks = λ k h. elim (chunks k h) [
  | inl direct ↦ inl (direct.0, λ x fits. direct.1 x fits ∙ same (k * 2 ^ 16 + x) (omega (arith, h, fits)))
  | inr run ↦ inr (
    run.0,
    record {
      first = run.1.first;
      alternating = run.1.alternating;
      few = run.1.few;
      right = λ x fits. run.1.right x fits ∙ same (k * 2 ^ 16 + x) (omega (arith, h, fits));
    },
  )
]

-- a table of the cells of rows stands for the rows
pub stands_for : (rows : List (Block × ℕ)) (cells : List (ℕ × ℕ)) (table : Dxr) → AreBlocks 32 rows → HaveIndexes rows → keys_of cells ≡ starts_of 32 rows → AreRight 32 rows cells → AreRightChunks (index_in cells) (2 ^ 16) table → IsDxrOf rows table
stands_for rows cells table blocks indexes starts right chunks = record {
  blocks = blocks;
  indexed = indexes;
  chunks = same_chunks (index_in cells) (index_at 32 rows) table (λ a fits. cells_answer 32 rows cells a fits blocks starts (up_cells rows cells starts) (first_cell rows cells starts) right) chunks;
}

-- no row has one cell
pub stands_for_none : (table : Dxr) → AreRightChunks (index_in ((0, 0) ∷ [])) (2 ^ 16) table → IsDxrOf [] table
stands_for_none table chunks =
    stands_for [] ((0, 0) ∷ []) table (All-from_recursion (IsBlock 32) [] tt) (All-from_recursion (λ index. 1 ≤ index) [] tt) refl
    (All-from_recursion (λ (c : ℕ × ℕ). c.1 ≡ index_at 32 [] c.0) ((0, 0) ∷ []) (refl, tt)) chunks
