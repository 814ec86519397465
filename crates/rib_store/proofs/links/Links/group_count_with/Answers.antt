use Rattle.std.proofs.Common.{refl, sym, ap, ◌∙◌, true, false, arith}
use Rattle.nhgrp_slots.specs.Order.{spread_cmp}
use Rattle.counted_map.specs.Counts.{count_of}
use Rattle.rib_store.specs.Uses.{Uses}
use Rattle.rib_store.proofs.CountedLemmas.{group_with, is_group_length}
use Rattle.rib_store.proofs.links.Links.group_count_with.Goals as goal

pub returns-then-len-lt2 : goal.returns-then-len-lt2
returns-then-len-lt2 g c =
    let e = group_with c.args.self.now c.args.paths.now c.args.group.now false _ (is_group_length c.args.paths.now false (λ x. absurd cc) (λ x. omega arith)) refl in
    let k = c.count-count.ensures ∙ ap (λ (u : Uses). count_of spread_cmp u.groups c.args.group.now) c.self.view_is in
    omega arith

pub returns-then-eq : goal.returns-then-eq
returns-then-eq g c =
    let e = group_with c.args.self.now c.args.paths.now c.args.group.now true true (is_group_length c.args.paths.now true (λ x. omega arith) (λ x. absurd cc)) (sym c.if-eq.true ∙ c.eq.ensures) in
    let k = c.count-count.ensures ∙ ap (λ (u : Uses). count_of spread_cmp u.groups c.args.group.now) c.self.view_is in
    omega arith

pub returns-else-eq : goal.returns-else-eq
returns-else-eq g c =
    let e = group_with c.args.self.now c.args.paths.now c.args.group.now true false (is_group_length c.args.paths.now true (λ x. omega arith) (λ x. absurd cc)) (sym c.if-eq.false ∙ c.eq.ensures) in
    let k = c.count-count.ensures ∙ ap (λ (u : Uses). count_of spread_cmp u.groups c.args.group.now) c.self.view_is in
    omega arith
