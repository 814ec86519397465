use Rattle.std.proofs.Common.{◌∙◌, ap, arith}
use Rattle.prefix_width.specs.Longest.{longest}
use Rattle.module_trait.specs.Rows.{index_of}
use Rattle.range_search.proofs.BisectLemmas.{narrowed_none, narrowed_some}
use Rattle.range_search.proofs.HalfLemmas.{last_narrowed}
use Rattle.range_search.proofs.table.RangeTableModule.find.Goals as goal

pub returns-then-index-eq0-clause-answer : goal.returns-then-index-eq0-clause-answer
returns-then-index-eq0-clause-answer g c = λ rows range.
    let last = c.last_index-index.ensures.last in
    narrowed_none g.row.W rows c.args.self.now.cells c.value.result last.place last.place c.last_index-index.result c.value.ensures.bound range (last_narrowed _ _ _ last) (omega arith) c.if-index-eq0.true
    ∙ ap (λ a. index_of (longest g.row.W rows a)) c.value.ensures.value

pub returns-else-index-eq0-clause-answer : goal.returns-else-index-eq0-clause-answer
returns-else-index-eq0-clause-answer g c = λ rows range.
    let last = c.last_index-index.ensures.last in
    narrowed_some g.row.W rows c.args.self.now.cells c.value.result last.place last.place c.last_index-index.result c.value.ensures.bound range (last_narrowed _ _ _ last) (omega arith) c.if-index-eq0.false
    ∙ ap (λ a. index_of (longest g.row.W rows a)) c.value.ensures.value
