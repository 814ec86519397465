use Rattle.std.proofs.Common.{arith}
use Rattle.std.proofs.lemmas.Bool.{false≢true}
use Rattle.range_search.proofs.CompareLemmas.{agree_more, differ_at}
use Rattle.range_search.proofs.compare.starts_agree.Goals as goal

pub returns-then-at-others : goal.returns-then-at-others
returns-then-at-others g c =
    ((λ t. absurd (false≢true t)), (λ e. absurd (differ_at c.args.cells.now c.args.others.now c.loop-i.i c.at.result (0, 0) c.at.ensures.value (omega arith) c.if-at-others.true e)))

pub loop-i-preserved : goal.loop-i-preserved
loop-i-preserved g c = agree_more c.args.cells.now c.args.others.now c.loop-i.i c.at.result (0, 0) c.at.ensures.value (omega arith) (c.if-at-others.false) c.loop-i.invariant
