use Rattle.std.proofs.Common.{refl, sym, ◌∙◌, subst, lit<}
use Rattle.rib_store.specs.Uses.{Uses}
use Rattle.rib_store.specs.Table.{Table}
use Rattle.rib_store.proofs.SettledLemmas.{Flushing, flush_starts, flush_has, flush_skips, flush_ends}
use Rattle.rib_store.proofs.links.unlink_flushed.Goals as goal

pub loop-prefix-init : goal.loop-prefix-init
loop-prefix-init g c =
    subst (λ (left : Table). Flushing g.row.LIVE left c.args.routes.now.entries c.args.links.now) (sym (c.into_iter-prefix-iterator.ensures.into_iter_gives ∙ c.iter-prefix-items.ensures.rest))
    (flush_starts g.row.LIVE c.args.routes.now.entries c.args.links.now c.requires c.live-live.ensures.counts)

pub unlink-requires : goal.unlink-requires
unlink-requires g c =
    (lit< tt, (lit< tt, (flush_has g.row.LIVE _ _ _ _ _ _ c.in-Some.ensures.steps (sym c.has_via.ensures ∙ c.if-has_via.true) c.loop-prefix.invariant).0))

pub loop-prefix-preserved-then-has_via : goal.loop-prefix-preserved-then-has_via
loop-prefix-preserved-then-has_via g c =
    subst (λ (u : Uses). Flushing g.row.LIVE c.next.new.self c.args.routes.now.entries u) (sym c.unlink.ensures)
    (flush_has g.row.LIVE _ _ _ _ _ _ c.in-Some.ensures.steps (sym c.has_via.ensures ∙ c.if-has_via.true) c.loop-prefix.invariant).1

pub loop-prefix-preserved : goal.loop-prefix-preserved
loop-prefix-preserved g c = flush_skips g.row.LIVE _ _ _ _ _ _ c.in-Some.ensures.steps (sym c.has_via.ensures ∙ c.if-has_via.false) c.loop-prefix.invariant

pub returns : goal.returns
returns g c =
    flush_ends g.row.LIVE c.args.routes.now.entries _ _ _ refl (subst (λ (left : Table). Flushing g.row.LIVE left c.args.routes.now.entries c.loop-prefix.links) c.in-None.ensures.steps.0 c.loop-prefix.invariant) c.requires
