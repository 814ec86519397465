use Rattle.std.proofs.Common.{sym, ◌∙◌, subst, lit<}
use Rattle.rib_store.specs.Uses.{Uses}
use Rattle.rib_store.specs.Table.{Table, drop_row}
use Rattle.rib_store.specs.Uses.{IsRib}
use Rattle.rib_store.proofs.SettledLemmas.{drops_route}
use Rattle.rib_store.proofs.routes.Routes.drop_route.Goals as goal

pub unlink-requires : goal.unlink-requires
unlink-requires g c =
    let d = drops_route g.row.LIVE c.self.inside.routes.entries c.self.inside.links c.args.prefix.now c.in-Some.gone (sym c.in-Some.is ∙ c.remove.ensures.value) c.self.invariant c.live-live.ensures.counts in
    (lit< tt, (lit< tt, d.has))

pub invariant_of-self-in-Some : goal.invariant_of-self-in-Some
invariant_of-self-in-Some g c =
    let d = drops_route g.row.LIVE c.self.inside.routes.entries c.self.inside.links c.args.prefix.now c.in-Some.gone (sym c.in-Some.is ∙ c.remove.ensures.value) c.self.invariant c.live-live.ensures.counts in
    subst (λ (rows : Table). IsRib g.row.LIVE rows c.unlink.new.self) (sym c.remove.ensures.entries)
    (subst (λ (u : Uses). IsRib g.row.LIVE (drop_row c.self.inside.routes.entries c.args.prefix.now) u) (sym c.unlink.ensures) d.rib)

pub invariant_of-self-in-Some-2 : goal.invariant_of-self-in-Some-2
invariant_of-self-in-Some-2 g c =
    let d = drops_route g.row.LIVE c.self.inside.routes.entries c.self.inside.links c.args.prefix.now c.in-Some.gone (sym c.in-Some.is ∙ c.remove.ensures.value) c.self.invariant c.live-live.ensures.counts in
    subst (λ (rows : Table). IsRib g.row.LIVE rows c.unlink.new.self) (sym c.remove.ensures.entries)
    (subst (λ (u : Uses). IsRib g.row.LIVE (drop_row c.self.inside.routes.entries c.args.prefix.now) u) (sym c.unlink.ensures) d.rib)
