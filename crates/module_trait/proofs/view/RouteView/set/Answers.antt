-- The prefix that is set is one of W bits, and the others stay.
use Rattle.std.proofs.Common.{subst, sym}
use Rattle.std.specs.BTreeMap.{is_at}
use Rattle.std.proofs.lemmas.Map.Views.{All-keys-insert_entry, All-map-remove_entry}
use Rattle.prefix_width.specs.Prefix.{IsBlock}
use Rattle.prefix_width.specs.Order.{block_cmp}
use Rattle.module_trait.specs.Rows.{AreBlocks}
use Rattle.module_trait.proofs.view.RouteView.set.Goals as goal

pub invariant_of-self : goal.invariant_of-self
invariant_of-self g c =
    subst (AreBlocks g.row.W) (sym (c.in_ok-insert-in-Some.ensures.entries)) (All-keys-insert_entry block_cmp c.args.prefix c.in-Some.index (IsBlock g.row.W) c.self.inside.rows.entries c.self.invariant c.len-len.ensures.block)

pub invariant_of-self-in-None : goal.invariant_of-self-in-None
invariant_of-self-in-None g c =
    subst (AreBlocks g.row.W) (sym c.remove.ensures.entries) (All-map-remove_entry (is_at (block_cmp c.args.prefix)) (λ e. e.0) (IsBlock g.row.W) c.self.inside.rows.entries c.self.invariant)
