-- The edits are a batch, and with it undone the table stands for the view.
use Rattle.std.proofs.Common.{◌≡◌, ℕ, List, sym, subst}
use Rattle.prefix_width.specs.Prefix.{Block}
use Rattle.module_trait.specs.Edit.{IndexChange, AreOfDistinct, HaveAfter, undone_all}
use Rattle.dxr_chunks.specs.Table.{IsChunksOf}
use Rattle.engine_bench.proofs.tests.take_drawn.Goals as goal

pub take_version-requires : goal.take_version-requires
take_version-requires g c =
    let batch = c.in_ok-edits.ensures in
    let new = c.edit_each.new.view in
    let edits = sym c.as_slice-2.ensures.value in
    record {
      distinct = subst AreOfDistinct edits batch.distinct;
      after = subst (λ (es : List IndexChange). HaveAfter es new) edits batch.after;
      before = subst (λ (es : List IndexChange). IsChunksOf (undone_all es new) c.args.table.now) edits (subst (λ (rows : List (Block × ℕ)). IsChunksOf rows c.args.table.now) (sym batch.before) c.requires);
    }
