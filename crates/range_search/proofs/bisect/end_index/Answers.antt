use Rattle.std.proofs.Common.{◌-◌, ◌∙◌, sym, ap, arith, slice_get}
use Rattle.range_search.proofs.HalfLemmas.{all_begin}
use Rattle.range_search.proofs.bisect.end_index.Goals as goal

pub returns-clause-last : goal.returns-clause-last
returns-clause-last g c = all_begin g.S.Start.number c.args.cells.now _ c.at.result.now (ap (λ n. slice_get c.args.cells.now (n - 1)) (sym c.len-len.ensures) ∙ c.at.ensures.value) (omega arith)
