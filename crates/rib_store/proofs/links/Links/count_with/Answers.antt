use Rattle.std.proofs.Common.{refl, sym, ◌∙◌, ap, true, false, arith}
use Rattle.prefix_width.specs.Order.{hop_cmp}
use Rattle.counted_map.specs.Counts.{count_of}
use Rattle.rib_store.specs.Uses.{Uses}
use Rattle.rib_store.proofs.CountedLemmas.{count_with}
use Rattle.rib_store.proofs.links.Links.count_with.Goals as goal

pub returns-then-not-gains : goal.returns-then-not-gains
returns-then-not-gains g c =
    let e = count_with c.args.self.now c.args.paths.now c.args.nexthop.now c.as_slice-list.ensures.spread false _ (sym c.if-not-gains.true ∙ c.requires.gains) refl in
    let k = c.count-count.ensures ∙ ap (λ (u : Uses). count_of hop_cmp u.nhops c.args.nexthop.now) c.self.view_is in
    omega arith

pub returns-then-has_nexthop : goal.returns-then-has_nexthop
returns-then-has_nexthop g c =
    let e = count_with c.args.self.now c.args.paths.now c.args.nexthop.now c.as_slice-list.ensures.spread true true (sym c.if-not-gains.false ∙ c.requires.gains) (sym c.if-has_nexthop.true ∙ c.has_nexthop.ensures) in
    let k = c.count-count.ensures ∙ ap (λ (u : Uses). count_of hop_cmp u.nhops c.args.nexthop.now) c.self.view_is in
    omega arith

pub returns-else-has_nexthop : goal.returns-else-has_nexthop
returns-else-has_nexthop g c =
    let e = count_with c.args.self.now c.args.paths.now c.args.nexthop.now c.as_slice-list.ensures.spread true false (sym c.if-not-gains.false ∙ c.requires.gains) (sym c.if-has_nexthop.false ∙ c.has_nexthop.ensures) in
    let k = c.count-count.ensures ∙ ap (λ (u : Uses). count_of hop_cmp u.nhops c.args.nexthop.now) c.self.view_is in
    omega arith
