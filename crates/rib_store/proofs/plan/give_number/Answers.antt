use Rattle.std.proofs.Common.{◌∙◌, sym, ap, rules}
use Rattle.std.specs.Map.{lookup}
use Rattle.std.specs.BTreeMap.{is_at}
use Rattle.prefix_width.specs.Order.{hop_cmp}
use Rattle.rib_store.proofs.PlanLemmas.{IsNumbering-append}
use Rattle.rib_store.proofs.plan.give_number.Goals as goal

pub returns-in_ok-push-in-Vacant-clause-numbering :
    goal.returns-in_ok-push-in-Vacant-clause-numbering
returns-in_ok-push-in-Vacant-clause-numbering g c =
    let n = c.insert.result.now in
    let update = c.in_ok-numbers.ensures.update in
    IsNumbering-append _ _ _ _ c.in-Some.nexthop n c.requires.numbering (search rules) c.in_ok-push-in-Vacant.ensures.items (search rules)
    (search rules)
    (λ h. ap (lookup (is_at (hop_cmp h))) (sym (update.1 n)) ∙ (update.0 n).0 h)
