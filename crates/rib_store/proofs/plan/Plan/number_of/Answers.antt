use Rattle.std.proofs.Common.{◌≡◌, ◌∙◌, List, ap}
use Rattle.prefix_width.specs.Nexthop.{Hop}
use Rattle.rib_store.specs.Plan.{Planned, number_of, place_in}
use Rattle.rib_store.proofs.PlanLemmas.{numbered_if_named}
use Rattle.rib_store.proofs.plan.Plan.number_of.Goals as goal

pub returns-clause-named : goal.returns-clause-named
returns-clause-named g c =
    let number : c.copied.result ≡ number_of c.args.self.now c.args.nexthop.now =
    c.copied.ensures ∙ c.get.ensures.value ∙ c.self.invariant.numbering c.args.nexthop.now
    ∙ ap (λ (hops : List Hop). place_in hops c.args.nexthop.now) c.self.invariant.order
    ∙ ap (λ (plan : Planned g.row.W). number_of plan c.args.nexthop.now) c.self.view_is in
    numbered_if_named c.args.self.now c.args.nexthop.now c.copied.result number
