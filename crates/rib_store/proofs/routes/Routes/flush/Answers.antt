use Rattle.std.proofs.Common.{◌∙◌, ap, sym, subst, not, rules}
use Rattle.std.proofs.lemmas.Map.Entries.{filter_from_retain_pairs}
use Rattle.nhgrp_slots.specs.Spread.{has_via}
use Rattle.rib_store.specs.Table.{flushed, Table}
use Rattle.rib_store.specs.Uses.{IsRib}
use Rattle.rib_store.proofs.routes.Routes.flush.Goals as goal

pub invariant_of-self : goal.invariant_of-self
invariant_of-self g c =
    let kept = filter_from_retain_pairs _ (λ _. Unit {0}) (λ r. not (has_via r.1)) (λ f k v b w f' i t. (search rules, search rules, tt)) _ _ _ tt c.retain.ensures.filtered in
    subst (λ (rows : Table). IsRib g.row.LIVE rows c.unlink_flushed.new.links) (sym kept) c.unlink_flushed.ensures

pub returns-clause-table : goal.returns-clause-table
returns-clause-table g c =
    let kept = filter_from_retain_pairs _ (λ _. Unit {0}) (λ r. not (has_via r.1)) (λ f k v b w f' i t. (search rules, search rules, tt)) _ _ _ tt c.retain.ensures.filtered in
    kept ∙ ap (λ (rows : Table). (flushed rows).table) c.self.view_is

pub returns-clause-reply : goal.returns-clause-reply
returns-clause-reply g c =
    let kept = returns-clause-table g c in
    let before = c.len-before.ensures.len in
    let after = c.len.ensures.len in
    let was = c.self.view_is in
    cc
