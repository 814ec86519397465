-- A chunk is as it was made, or it has no index, as all chunks have at first.
use Rattle.std.proofs.Common.{inl, inr}
use Rattle.std.specs.Map.{keys_of}
use Rattle.module_trait.specs.Nodes.{node_at}
use Rattle.dxr_chunks.specs.Fragments.{index_in}
use Rattle.dxr_chunks.proofs.ApplyLemmas.{chunk_kept}
use Rattle.dxr_chunks.proofs.TableLemmas.{cases_in, chunk_other}
use Rattle.dxr_chunks.proofs.form.store_of.Goals as goal

pub returns-clause-chunks : goal.returns-clause-chunks
returns-clause-chunks c = λ k fits.
    let answer = index_in c.args.cells.now in
    let remade = c.in_ok-remake.ensures.ok in
    let old = c.in_ok-store.store in
    let new = c.remake.new.store in
    elim (cases_in k (keys_of c.in_ok-news.news.items)) [
      | inl is ↦ remade.made answer c.in_ok-news.ensures.made k is
      | inr out ↦
          let direct = c.in_ok-news.ensures.rest k fits out in
          let first = chunk_other (λ a. 0) answer k (node_at old.cells.slots k) (node_at old.runs.slots) direct (c.in_ok-store.ensures.chunks k fits) in
          chunk_kept answer k (node_at old.cells.slots) (node_at new.cells.slots) (node_at old.runs.slots) (node_at new.runs.slots) (remade.others k fits out) first
    ]
