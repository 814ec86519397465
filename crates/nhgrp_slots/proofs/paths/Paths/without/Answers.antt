use Rattle.std.proofs.Common.{◌≡◌, ◌≤◌, ◌∙◌, ap, sym, subst, arith, length}
use Rattle.std.specs.Prelude.{not}
use Rattle.std.proofs.lemmas.Grind.{common_steps}
use Rattle.nhgrp_slots.specs.PathList.{IsPathList, goes_by}
use Rattle.nhgrp_slots.specs.Slots.{HaveWeights}
use Rattle.nhgrp_slots.specs.Spread.{IsSpread, left_layout}
use Rattle.nhgrp_slots.proofs.PathLemmas.{filtered}
use Rattle.nhgrp_slots.proofs.SpreadLemmas.{left_are_spreads}
use Rattle.nhgrp_slots.proofs.paths.Paths.without.Goals as goal

pub left_layout-requires : goal.left_layout-requires
left_layout-requires g c =
    let some : 1 ≤ length c.in_ok-paths.paths.items = grind (arith, common_steps, c.if-is_empty.ensures) in
    let list : IsPathList c.in_ok-paths.paths.items = filtered (λ p. not (goes_by c.args.gateway.now p)) c.args.self.now.paths c.in_ok-paths.paths.items c.in_ok-paths.ensures.left some c.in_ok-paths.ensures.spread.list in
    (omega arith, (omega arith, subst IsPathList (sym c.deref.ensures.value) list))

pub made-requires : goal.made-requires
made-requires g c =
    let some : 1 ≤ length c.in_ok-paths.paths.items = grind (arith, common_steps, c.if-is_empty.ensures) in
    let list : IsPathList c.in_ok-paths.paths.items = filtered (λ p. not (goes_by c.args.gateway.now p)) c.args.self.now.paths c.in_ok-paths.paths.items c.in_ok-paths.ensures.left some c.in_ok-paths.ensures.spread.list in
    let have : HaveWeights c.in_ok-paths.paths.items = subst HaveWeights c.deref.ensures.value c.in_ok-layout.ensures.weights in
    let layout : c.in_ok-layout.layout.items ≡ left_layout c.args.keeps c.args.self.now c.in_ok-paths.paths.items = c.in_ok-layout.ensures.layout ∙ ap (left_layout c.args.keeps c.args.self.now) c.deref.ensures.value in
    (omega arith, (omega arith, subst (λ l. IsSpread (record { paths = c.in_ok-paths.paths.items; layout = l })) (sym layout) (left_are_spreads c.args.keeps c.args.self.now c.in_ok-paths.paths.items c.in_ok-paths.ensures.spread list have)))
