use Rattle.std.proofs.Common.{arith, rules, ◌≤◌, length}
use Rattle.rib_store.proofs.PlanLemmas.{hops_within}
use Rattle.rib_store.proofs.plan.Plan.nexthops.Goals as goal

pub overflow_cast-result : goal.overflow_cast-result
overflow_cast-result g c =
    let few : length c.self.inside.nexthops.items ≤ length c.self.inside.commands.items = hops_within _ _ _ c.self.invariant in
    search (rules, arith)

pub returns-clause-most : goal.returns-clause-most
returns-clause-most g c =
    let few : length c.self.inside.nexthops.items ≤ length c.self.inside.commands.items = hops_within _ _ _ c.self.invariant in
    omega arith
