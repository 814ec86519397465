-- There is a start, at 0.
use Rattle.std.proofs.Common.{arith}
use Rattle.range_search.proofs.BisectLemmas.{some_start}
use Rattle.range_search.proofs.table.RangeTableModule.bound.Goals as goal

pub returns-in-None : goal.returns-in-None
returns-in-None g c = λ rows range.
    let some = some_start g.row.W rows c.args.self.now.cells range in
    let len = c.len.ensures in
    let none = c.in-None.ensures.none in
    absurd (omega (arith, some, len, none))
