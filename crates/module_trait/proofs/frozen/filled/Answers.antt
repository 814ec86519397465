use Rattle.module_trait.proofs.PageLemmas.{filled_more}
use Rattle.module_trait.proofs.frozen.filled.Goals as goal

pub loop-key-preserved : goal.loop-key-preserved
loop-key-preserved g c =
    let updates = rw c.if-branch-key.false at c.in_ok-insert.ensures.updates in
    filled_more _ _ c.args.filler.now c.in_ok-node.node _ _ _ c.loop-key.invariant updates.changed updates.others (rw c.paged.ensures at c.in_ok-node.ensures)
