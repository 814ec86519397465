use Rattle.std.proofs.Common.{◌∙◌, ℕ, List, ap, subst}
use Rattle.std.specs.Map.{keys_of}
use Rattle.dxr_chunks.specs.Fragments.{index_in}
use Rattle.dxr_chunks.proofs.CellLemmas.{first_cell, up_cells}
use Rattle.dxr_table.specs.Dxr.{AreRightChunks}
use Rattle.dxr_table.proofs.AnswerLemmas.{stands_for}
use Rattle.dxr_table.proofs.table.DxrTableModule32.load.Goals as goal

pub of_cells-requires-clause-first : goal.of_cells-requires-clause-first
of_cells-requires-clause-first c = first_cell c.args.rows.now c.as_slice.result.now (ap keys_of c.as_slice.ensures.value ∙ c.in_ok-cells.ensures.starts)

pub of_cells-requires-clause-ascending : goal.of_cells-requires-clause-ascending
of_cells-requires-clause-ascending c = up_cells c.args.rows.now c.as_slice.result.now (ap keys_of c.as_slice.ensures.value ∙ c.in_ok-cells.ensures.starts)

pub returns-clause-ok : goal.returns-clause-ok
returns-clause-ok c =
    stands_for c.args.rows.now c.in_ok-cells.cells.items _ c.in_ok-cells.ensures.blocks c.requires.indexes c.in_ok-cells.ensures.starts c.in_ok-cells.ensures.right
    (subst (λ (cells : List (ℕ × ℕ)). AreRightChunks (index_in cells) 65536 c.in_ok-self.field-0) c.as_slice.ensures.value c.in_ok-self.ensures)
