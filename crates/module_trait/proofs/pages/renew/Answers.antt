use Rattle.std.proofs.Common.{arith, ap, ◌∙◌, sym, length, false}
use Rattle.std.proofs.lemmas.List.{length-set, get_or_read}
use Rattle.module_trait.proofs.PageLemmas.{unmarked_renew, unmarked_next, marked_clear, marked_none}
use Rattle.module_trait.proofs.pages.renew.Goals as goal
use Rattle.module_trait.proofs.pages.renew.Goals.{then-index+in_ok-renew_page, else-index}

pub loop-page-preserved : goal.loop-page-preserved
loop-page-preserved g c =
    let inv = c.loop-page.invariant in
    let marks = c.loop-page.marks.items in
    let page = c.loop-page.page in
    elim c.if-index.branch [
      | then-index+in_ok-renew_page w ↦
          let ok = ap (λ v. v.items) w.marks-is ∙ w.in_ok-renew_page.ensures.ok in
          let e = w.in_ok-renew_page.ensures in
          record {
            kept = rw (w.pages-is, w.marks-is) e.kept;
            done = rw ok (unmarked_renew marks page (omega arith) inv.done);
            marks = ap length ok ∙ length-set marks page false ∙ inv.marks;
            len = ap (λ v. length v.items) w.pages-is ∙ e.len ∙ inv.len;
            fewer = rw ok (omega (arith, marked_clear marks page));
          }
      | else-index w ↦ record {
        kept = rw (w.pages-is, w.marks-is) inv.kept;
        done = rw w.marks-is (unmarked_next marks page inv.done (sym (get_or_read marks page c.index.result.now (omega arith) c.index.ensures _) ∙ w.if-index.false));
        marks = rw w.marks-is inv.marks;
        len = rw w.pages-is inv.len;
        fewer = rw w.marks-is inv.fewer;
      }
    ]

pub returns-clause-none : goal.returns-clause-none
returns-clause-none g c =
    let inv = c.loop-page.invariant in
    marked_none _ (λ page below. inv.done page (omega (arith, inv.marks)))
