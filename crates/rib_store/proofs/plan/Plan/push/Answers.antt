use Rattle.std.proofs.Common.{arith, refl, ◌≡◌, ◌≤◌, length}
use Rattle.rib_store.specs.Plan.{IsWrongModule, with_first, named_by}
use Rattle.rib_store.proofs.PlanLemmas.{hops_within, IsPlan-with}
use Rattle.rib_store.proofs.plan.Plan.push.Goals as goal
use Rattle.rib_store.proofs.plan.Plan.push.Goals.{else-this-ne32-via-then-this-ne32+else-sets_dxr, else-this-ne32-via-else-this-ne32}

pub give_number-requires : goal.give_number-requires
give_number-requires g c =
    let few : length c.self.inside.nexthops.items ≤ length c.self.inside.commands.items = hops_within _ _ _ c.self.invariant in
    (omega arith, (c.self.invariant.numbering, omega arith))

pub invariant_of-self-2 : goal.invariant_of-self-2
invariant_of-self-2 g c =
    let right : ¬ (IsWrongModule c.args.command) = elim c.else-this-ne32.branch [
      | else-this-ne32-via-then-this-ne32+else-sets_dxr w ↦ λ wrong. cc (w.sets_dxr.ensures, w.if-sets_dxr.false, wrong.0)
      | else-this-ne32-via-else-this-ne32 w ↦ λ wrong. wrong.1 w.if-this-ne32.false
    ] in
    let hops : c.give_number.new.nexthops.items ≡ with_first c.self.inside.nexthops.items (named_by c.args.command) = cc (c.in_ok-give_number.ensures.ok, c.nexthop.ensures.named) in
    IsPlan-with _ _ _ _ _ _ c.args.command c.self.invariant (omega arith) right c.nexthop.ensures.weight refl
    (cc (c.in_ok-push.ensures.items, c.in_ok-reserve.ensures.items)) hops c.in_ok-give_number.ensures.numbering
