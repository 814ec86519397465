-- Where the prefix cut to this length has no row, no cover has this length.
use Rattle.std.proofs.Common.{◌≡◌, ◌-◌, inl, inr, sym, ap, ◌∙◌, subst, arith, None}
use Rattle.std.proofs.lemmas.Bool.{cases_eq}
use Rattle.prefix_width.specs.Prefix.{masked_block}
use Rattle.module_trait.specs.Rows.{AreBlocks}
use Rattle.module_trait.specs.View.{row_at}
use Rattle.module_trait.proofs.CoverLemmas.{not_there}
use Rattle.module_trait.proofs.view.RouteView.cover.Goals as goal

pub loop-len-preserved-in_default-get : goal.loop-len-preserved-in_default-get
loop-len-preserved-in_default-get g c = λ q cover.
    let w = g.row.W in
    let rows = c.args.self.now in
    let p = c.args.prefix.now in
    let len = c.loop-len.len - 1 in
    let up = c.loop-len.invariant q cover in
    let blocks : AreBlocks w rows = subst (AreBlocks w) c.self.view_is c.self.invariant in
    let cut = c.in-Some.ensures.1 ∙ ap (λ a. masked_block w a len) c.addr.ensures in
    let none : row_at rows (masked_block w p.base len) ≡ None = sym (ap (row_at rows) cut) ∙ sym c.get.ensures ∙ c.in_default-get.is in
    elim (cases_eq q.len len) [
      | inl e ↦ absurd (not_there w rows p q len blocks none cover e)
      | inr e ↦ omega arith
    ]
