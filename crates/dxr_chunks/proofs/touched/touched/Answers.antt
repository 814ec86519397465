use Rattle.std.proofs.Common.{◌≡◌, subst}
use Rattle.prefix_width.specs.Prefix.{Block, IsBlock}
use Rattle.dxr_chunks.specs.Touch.{AddsTouched}
use Rattle.dxr_chunks.proofs.TouchLemmas.{prefixes_more, touched_more}
use Rattle.dxr_chunks.proofs.touched.touched.Goals as goal

pub loop-edit-preserved : goal.loop-edit-preserved
loop-edit-preserved g c =
    let old = c.loop-edit.numbers.keys in
    let new = c.add_touched.new.numbers.keys in
    let adds = subst (λ (p : Block). AddsTouched 4096 p old new) c.prefix-prefix.ensures c.in_ok-add_touched.ensures.added in
    record {
      touched = touched_more 4096 c.args.edits.now c.loop-edit.edit-index c.edit-item.result old new c.loop-edit-test.true c.edit-item.is c.loop-edit.invariant.touched adds;
      below = c.in_ok-add_touched.ensures.below c.loop-edit.invariant.below;
      prefixes = prefixes_more c.args.edits.now c.loop-edit.edit-index c.edit-item.result c.loop-edit-test.true c.edit-item.is c.loop-edit.invariant.prefixes (subst (IsBlock 32) c.prefix-prefix.ensures c.in_ok-add_touched.ensures.block);
    }
