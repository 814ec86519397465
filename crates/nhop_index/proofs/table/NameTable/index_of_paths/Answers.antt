use Rattle.std.proofs.Common.{◌∙◌, ap}
use Rattle.std.proofs.lemmas.Fn.{always_returns_same}
use Rattle.nhgrp_slots.specs.Target.{target_cmp, target_of}
use Rattle.nhgrp_slots.proofs.TargetOrder.{target_total, target_exact}
use Rattle.nhop_index.specs.Indexes.{index_in}
use Rattle.nhop_index.specs.Table.{index_at}
use Rattle.nhop_index.proofs.SearchLemmas.{found_at}
use Rattle.nhop_index.proofs.table.NameTable.index_of_paths.Goals as goal

pub returns : goal.returns
returns g c =
    let facts = c.binary_search_by-place.ensures in
    let by_order = facts.position (λ e. target_cmp e.0 (target_of c.args.paths.now)) (always_returns_same _ _ _ (λ a r f' k. (k.met.1, λ j. record { 0 = k.met.0 j }))) in
    let r = c.binary_search_by-place.result in
    let found = found_at target_cmp target_total target_exact c.self.inside.names.items (target_of c.args.paths.now) r c.self.invariant.sorted (rw c.deref.ensures.value at facts.bound) (rw c.deref.ensures.value at by_order) in
    c.index_at.ensures ∙ ap (λ ns. index_at ns r) c.deref-2.ensures.value ∙ found ∙ ap (λ ns. index_in target_cmp ns (target_of c.args.paths.now)) c.self.view_is
