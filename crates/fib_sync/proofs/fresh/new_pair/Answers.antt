use Rattle.std.proofs.Common.{◌≡◌, ◌∙◌, Some, None, cond, sym, ap}
use Rattle.rib_store.specs.Plan.{number_of}
use Rattle.fib_sync.specs.Fresh.{new_pair}
use Rattle.fib_sync.proofs.FreshLemmas.{new_pair_is}
use Rattle.fib_sync.proofs.fresh.new_pair.Goals as goal

pub returns-then-has_index : goal.returns-then-has_index
returns-then-has_index g c =
    let hp : number_of c.args.plan.now c.in-One.nexthop ≡ Some c.in_ok-number.number = sym c.in_ok-number.ensures.number in
    let is = new_pair_is c.args.plan.now c.args.before.now.names c.args.index c.in_ok-number.number c.in-One.nexthop c.has_index.result hp c.has_index.ensures in
    sym (ap (λ b. cond b None (Some (c.args.index, c.in_ok-number.number))) c.if-has_index.true) ∙ is
    ∙ ap (λ t. new_pair c.args.plan.now c.args.before.now.names (c.args.index, t)) (sym c.in-One.is)

pub returns-else-has_index : goal.returns-else-has_index
returns-else-has_index g c =
    let hp : number_of c.args.plan.now c.in-One.nexthop ≡ Some c.in_ok-number.number = sym c.in_ok-number.ensures.number in
    let is = new_pair_is c.args.plan.now c.args.before.now.names c.args.index c.in_ok-number.number c.in-One.nexthop c.has_index.result hp c.has_index.ensures in
    sym (ap (λ b. cond b None (Some (c.args.index, c.in_ok-number.number))) c.if-has_index.false) ∙ is
    ∙ ap (λ t. new_pair c.args.plan.now c.args.before.now.names (c.args.index, t)) (sym c.in-One.is)
