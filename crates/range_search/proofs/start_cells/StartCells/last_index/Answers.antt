use Rattle.std.proofs.Common.{ℕ, ◌-◌, ◌≤◌, ◌∙◌, sym, ap, subst, arith, slice_get}
use Rattle.range_search.specs.Bisect.{IsLast}
use Rattle.range_search.proofs.EitherLemmas.{either_narrow}
use Rattle.range_search.proofs.HalfLemmas.{all_begin}
use Rattle.range_search.proofs.start_cells.StartCells.last_index.Goals as goal

pub returns-in-Err-clause-last : goal.returns-in-Err-clause-last
returns-in-Err-clause-last g c =
    let narrow = c.self.inside.narrow in
    let same = sym c.self.view_is ∙ either_narrow narrow c.self.inside.wide (λ e. c.if-len-eq0.false (c.len-len.ensures ∙ e)) in
    let begun : c.at.result.now.0 ≤ c.args.value = omega arith in
    subst (λ cells. IsLast (λ (n : ℕ). n) cells c.args.value c.at.result.now.1) (sym same) (all_begin (λ (n : ℕ). n) narrow c.args.value c.at.result.now (ap (λ n. slice_get narrow (n - 1)) (sym c.len-len.ensures) ∙ c.at.ensures.value) begun)
