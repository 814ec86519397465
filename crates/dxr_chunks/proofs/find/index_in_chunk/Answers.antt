use Rattle.std.proofs.Common.{◌≡◌, ◌+◌, ◌-◌, ◌^◌, ◌≤◌, Some, arith, sym, ap, ◌∙◌}
use Rattle.dxr_chunks.proofs.ApplyLemmas.{run_found}
use Rattle.dxr_chunks.proofs.find.index_in_chunk.Goals as goal

pub returns-in-Run-clause-cost : goal.returns-in-Run-clause-cost
returns-in-Run-clause-cost g c = λ answer is.
    let cell = c.at.ensures.value ∙ ap Some (sym c.cell.ensures ∙ c.in-Run.is) in
    let fragments = run_found answer c.args.chunk c.in-Run.key (g.C.NodeReads.node c.args.cells.now c.args.chunk) (g.R.NodeReads.node c.args.runs.now) c.at-run.result.now cell c.at-run.ensures.value is in
    let few = fragments.few in
    let cost = c.index_in_run.ensures.cost 16 (omega (arith, few, c.len.ensures)) in
    omega (arith, cost, c.at.ensures.cost, c.at-run.ensures.cost)
