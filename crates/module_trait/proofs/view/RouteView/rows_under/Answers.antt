-- From the prefix to its last address stand the rows that it covers.
use Rattle.std.proofs.Common.{◌≡◌, ◌∙◌, ap, subst, filter}
use Rattle.std.specs.BTreeMap.Range.{entries_between}
use Rattle.std.specs.declared.ops.Bound.TheVariants.{Included}
use Rattle.std.proofs.lemmas.Result.{IfOk-weaker}
use Rattle.prefix_width.specs.Order.{block_cmp}
use Rattle.prefix_width.specs.Prefix.{covers, last_of, masked_block}
use Rattle.module_trait.specs.Rows.{AreBlocks}
use Rattle.module_trait.proofs.UnderLemmas.{rows_covered}
use Rattle.module_trait.proofs.view.RouteView.rows_under.Goals as goal

pub returns-in-Some : goal.returns-in-Some
returns-in-Some g c =
    let w = g.row.W in
    let p = c.args.prefix.now in
    let blocks : AreBlocks w c.args.self.now = subst (AreBlocks w) c.self.view_is c.self.invariant in
    let last : c.in-Some.last ≡ masked_block w (last_of w p) w = c.in-Some.ensures.1 ∙ ap (λ a. masked_block w a w) c.last.ensures in
    let whole = ap (λ to. entries_between block_cmp (Included p) (Included to) c.args.self.now) last ∙ rows_covered w p c.args.self.now c.len-len.ensures.block blocks in
    IfOk-weaker c.between.result
    (λ rows. rows.items ≡ entries_between block_cmp (Included p) (Included c.in-Some.last) c.args.self.now)
    (λ rows. rows.items ≡ filter (λ r. covers w p r.0) c.args.self.now)
    (λ rows h. h ∙ whole)
    c.between.ensures.value
