use Rattle.std.proofs.Common.{◌≡◌, ◌∙◌, ℕ, List, Some, sym, subst}
use Rattle.std.specs.List.{slice_get}
use Rattle.std.specs.Map.{keys_of}
use Rattle.module_trait.specs.Starts.{IsUp}
use Rattle.dxr_chunks.specs.Form.{working}
use Rattle.dxr_chunks.specs.Fragments.{index_in}
use Rattle.dxr_chunks.specs.Table.{AreRightChunks}
use Rattle.dxr_chunks.proofs.ChunkLemmas.{first_at, up_at}
use Rattle.dxr_chunks.proofs.TableLemmas.{stands_for}
use Rattle.dxr_chunks.proofs.table.ChunkTable.load_rows.Goals as goal

pub store_of-requires-clause-first : goal.store_of-requires-clause-first
store_of-requires-clause-first g c =
    subst (λ (xs : List (ℕ × ℕ)). slice_get (keys_of xs) 0 ≡ Some 0) (sym c.as_slice.ensures.value)
    (first_at g.row.W c.args.rows.now c.in_ok-cells.cells.items c.requires.width c.in_ok-cells.ensures.starts)

pub store_of-requires-clause-ascending : goal.store_of-requires-clause-ascending
store_of-requires-clause-ascending g c =
    subst (λ (xs : List (ℕ × ℕ)). IsUp (keys_of xs)) (sym c.as_slice.ensures.value)
    (up_at g.row.W c.args.rows.now c.in_ok-cells.cells.items c.requires.width c.in_ok-cells.ensures.starts)

pub returns-clause-ok : goal.returns-clause-ok
returns-clause-ok g c =
    rw c.replace.ensures.replaced (stands_for g.row.W c.args.rows.now c.in_ok-cells.cells.items (working c.in_ok-store.store) c.requires.width c.in_ok-cells.ensures.blocks c.requires.rows.indexes c.in_ok-cells.ensures.starts c.in_ok-cells.ensures.right c.in_ok-store.ensures.linked
    (subst (λ (xs : List (ℕ × ℕ)). AreRightChunks (index_in xs) (working c.in_ok-store.store)) c.as_slice.ensures.value c.in_ok-store.ensures.chunks))
