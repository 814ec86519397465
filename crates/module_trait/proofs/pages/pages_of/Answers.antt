use Rattle.std.proofs.Common.{◌≡◌, ◌+◌, ◌<◌, arith, ap, ◌∙◌, length, sym, true, [], subst}
use Rattle.std.proofs.lemmas.List.{length-map, get_or-map, get_or_read}
use Rattle.module_trait.specs.Nodes.{cells_of, contents, IsPageOf}
use Rattle.module_trait.proofs.PageLemmas.{marked_more, marked_same, same_all, pushed, page_kept}
use Rattle.module_trait.proofs.pages.pages_of.Goals as goal
use Rattle.module_trait.proofs.pages.pages_of.Goals.{then-index+in_ok-page_at+in_ok-push, else-index+in_ok-owner_of+in_ok-push-2}

pub loop-page-preserved : goal.loop-page-preserved
loop-page-preserved g c =
    let inv = c.loop-page.invariant in
    let marks = c.args.marks.now.items in
    let page = c.loop-page.page in
    let count = length-map c.args.pages.now.items (cells_of {T = g.row.T.Denot}) in
    let within : page < length marks = omega (arith, c.requires.kept.same) in
    let read = sym (get_or_read marks page c.index.result.now within c.index.ensures true) in
    elim c.if-index.branch [
      | then-index+in_ok-page_at+in_ok-push w ↦
          let is = ap (λ v. v.items) w.shared-is ∙ w.in_ok-push.ensures.items in
          let done = pushed _ _ _ _ _ _ c.requires.kept.positive inv.count inv.same w.in_ok-page_at.ensures is in
          record {
            count = done.0;
            same = done.1;
            made = w.made-is ∙ ap (λ n. n + 1) inv.made ∙ sym (marked_more marks page within (read ∙ w.if-index.true));
            few = omega arith;
          }
      | else-index+in_ok-owner_of+in_ok-push-2 w ↦
          let is = ap (λ v. v.items) w.shared-is ∙ w.in_ok-push-2.ensures.items in
          let kept = page_kept _ _ _ _ page c.requires.kept (read ∙ w.if-index.false) in
          let cells = get_or-map (cells_of {T = g.row.T.Denot}) c.args.pages.now.items page w.index-else-index.result.now [] (omega arith) in
          let same = w.in_ok-owner_of.ensures ∙ ap (cells_of {T = g.row.T.Denot}) w.index-else-index.ensures ∙ sym cells in
          let page_of = subst (λ cs. IsPageOf g.row.PAGE c.args.slab.now.slots page cs) (sym same) kept in
          let done = pushed _ _ _ _ _ _ c.requires.kept.positive inv.count inv.same page_of is in
          record {
            count = done.0;
            same = done.1;
            made = w.made-is ∙ inv.made ∙ sym (marked_same marks page within (read ∙ w.if-index.false));
            few = omega (arith, w.made-is);
          }
    ]

pub returns-clause-same : goal.returns-clause-same
returns-clause-same g c =
    let inv = c.loop-page.invariant in
    let made = length-map c.loop-page.shared.items (cells_of {T = g.row.T.Denot}) in
    let count = length-map c.args.pages.now.items (cells_of {T = g.row.T.Denot}) in
    same_all _ _ _ _ _ c.requires.kept (omega (arith, inv.count)) (λ key below. inv.same key (omega (arith, below)))
