use Rattle.std.proofs.Common.{◌≡◌, ◌++◌, ◌+◌, ◌∷◌, [], ◌∙◌, sym, ap, subst, take}
use Rattle.std.proofs.lemmas.List.{take_more, take_all}
use Rattle.module_trait.specs.Rows.{AreBlocks}
use Rattle.module_trait.specs.Sweep.{IsSweep, ComesAfter}
use Rattle.module_trait.proofs.SweepLemmas.{comes_after}
use Rattle.module_trait.proofs.sweep.cells_of.Goals as goal

pub loop-row-preserved : goal.loop-row-preserved
loop-row-preserved g c =
    let rows = c.args.rows.now in
    let i = c.loop-row.row-index in
    let row = c.row-item.result in
    let more : take (i + 1) rows ≡ take i rows ++ row ∷ [] = take_more rows i row c.loop-row-test.true ∙ ap (λ r. take i rows ++ r ∷ []) (sym c.row-item.is) in
    let after : ComesAfter (take i rows) row = subst (ComesAfter (take i rows)) (sym c.row-item.is) (comes_after rows i row c.requires c.loop-row-test.true) in
    record {
      some = c.in_ok-place.ensures.some;
      sweep = subst (λ front. IsSweep g.row.W front c.place.new.cells.items c.place.new.ahead.items) (sym more) (c.in_ok-place.ensures.sweep (take i rows) c.loop-row.invariant.sweep after);
    }

pub returns-clause-blocks : goal.returns-clause-blocks
returns-clause-blocks g c = subst (AreBlocks g.row.W) (take_all c.loop-row.row-index c.args.rows.now c.loop-row-test.false) c.loop-row.invariant.sweep.blocks
