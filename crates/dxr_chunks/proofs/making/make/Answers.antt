use Rattle.std.proofs.Common.{◌≡◌, ◌∙◌, List, ℕ, ap, sym, subst, Some}
use Rattle.std.specs.List.{slice_get}
use Rattle.std.specs.Map.{keys_of}
use Rattle.module_trait.specs.Rows.{AreBlocks}
use Rattle.module_trait.specs.Starts.{AreRight, IsUp, starts_of, index_at}
use Rattle.prefix_width.specs.Prefix.{Block}
use Rattle.dxr_chunks.specs.Chunk.{IsMade}
use Rattle.dxr_chunks.specs.Fragments.{index_in}
use Rattle.dxr_chunks.proofs.ChunkLemmas.{first_at, made_at, up_at}
use Rattle.dxr_chunks.proofs.making.make.Goals as goal

pub make_of-requires-clause-first : goal.make_of-requires-clause-first
make_of-requires-clause-first g c =
    subst (λ (xs : List (ℕ × ℕ)). slice_get (keys_of xs) 0 ≡ Some 0) (sym c.as_slice-2.ensures.value)
    (first_at g.row.W c.as_slice.result.now c.in_ok-cells.cells.items c.requires.width c.in_ok-cells.ensures.starts)

pub make_of-requires-clause-ascending : goal.make_of-requires-clause-ascending
make_of-requires-clause-ascending g c =
    subst (λ (xs : List (ℕ × ℕ)). IsUp (keys_of xs)) (sym c.as_slice-2.ensures.value)
    (up_at g.row.W c.as_slice.result.now c.in_ok-cells.cells.items c.requires.width c.in_ok-cells.ensures.starts)

pub returns : goal.returns
returns g c =
    let rows = c.in_ok-rows.rows.items in
    let cells = c.in_ok-cells.cells.items in
    let same = c.as_slice.ensures.value in
    let made = subst (λ (xs : List (ℕ × ℕ)). IsMade (index_in xs) c.args.chunk c.in_ok-made.made) c.as_slice-2.ensures.value c.in_ok-made.ensures in
    made_at g.row.W c.args.view.now rows cells c.args.chunk c.in_ok-made.made c.requires.width c.requires.chunk
    (subst (AreBlocks g.row.W) same c.in_ok-cells.ensures.blocks)
    (subst (λ (rs : List (Block × ℕ)). keys_of cells ≡ starts_of g.row.W rs) same c.in_ok-cells.ensures.starts)
    (subst (λ (rs : List (Block × ℕ)). AreRight g.row.W rs cells) same c.in_ok-cells.ensures.right)
    c.in_ok-rows.ensures.answers made
