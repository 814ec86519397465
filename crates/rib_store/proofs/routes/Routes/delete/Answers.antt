use Rattle.std.proofs.Common.{◌≡◌, ◌∙◌, Some, ap, sym}
use Rattle.rib_store.specs.Table.{Outcome, Table, paths_at, settled}
use Rattle.rib_store.proofs.TableLemmas.{none_left}
use Rattle.rib_store.proofs.routes.Routes.delete.Goals as goal

pub returns-in-None-clause-table : goal.returns-in-None-clause-table
returns-in-None-clause-table g c =
    let row : paths_at c.args.self.now c.args.prefix ≡ Some c.in-Some-get.present.now = sym (c.in-Some-get.ensures.value ∙ ap (λ (rows : Table). paths_at rows c.args.prefix) c.self.view_is) in
    c.drop_route-in-None.ensures.table c.args.keeps
    ∙ ap (λ (o : Outcome). o.table) (none_left c.args.keeps (settled g.row.LIVE) c.args.self.now c.args.prefix c.in-Some.gateway c.args.gateway c.in-Some-get.present.now c.in-Some.is row (sym c.goes_by.ensures ∙ c.if-not-goes_by.false) (sym c.in_ok-without.ensures ∙ c.in-None.is))

pub returns-in-None-clause-reply : goal.returns-in-None-clause-reply
returns-in-None-clause-reply g c =
    let row : paths_at c.args.self.now c.args.prefix ≡ Some c.in-Some-get.present.now = sym (c.in-Some-get.ensures.value ∙ ap (λ (rows : Table). paths_at rows c.args.prefix) c.self.view_is) in
    c.drop_route-in-None.ensures.reply c.args.keeps
    ∙ ap (λ (o : Outcome). o.reply) (none_left c.args.keeps (settled g.row.LIVE) c.args.self.now c.args.prefix c.in-Some.gateway c.args.gateway c.in-Some-get.present.now c.in-Some.is row (sym c.goes_by.ensures ∙ c.if-not-goes_by.false) (sym c.in_ok-without.ensures ∙ c.in-None.is))
