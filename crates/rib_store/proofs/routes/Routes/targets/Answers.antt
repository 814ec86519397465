use Rattle.std.proofs.Common.{ap, ◌∙◌, sym, subst, List, length, ◌≤◌, arith}
use Rattle.std.specs.Prelude.{All}
use Rattle.std.specs.List.Sorted.{IsStrictlySortedBy}
use Rattle.std.specs.Map.{keys_of, values_of}
use Rattle.std.proofs.lemmas.List.Elements.{All-weaker}
use Rattle.std.proofs.lemmas.Result.{IfOk-weaker}
use Rattle.nhgrp_slots.specs.PathList.{IsPathList}
use Rattle.nhgrp_slots.specs.Spread.{IsSpread}
use Rattle.nhgrp_slots.specs.Target.{IsTarget, target_cmp}
use Rattle.nhgrp_slots.specs.declared.target.Target.{Target}
use Rattle.rib_store.specs.Table.{Table}
use Rattle.rib_store.specs.Targets.{AreClosed, LeadToLive, live, targets_of}
use Rattle.rib_store.specs.Live.{live_hops}
use Rattle.rib_store.proofs.LawLemmas.{live_targets_are_counted}
use Rattle.rib_store.proofs.LiveLemmas.{counted_live, keys_nhops, keys_groups}
use Rattle.rib_store.proofs.TargetLemmas.{live_ascends, live_closed, live_targets, rows_lead}
use Rattle.rib_store.proofs.routes.Routes.targets.Goals as goal

pub returns-clause-live : goal.returns-clause-live
returns-clause-live g c =
    let n = keys_nhops _ c.self.inside.links c.self.invariant.counted c.live-live.ensures.counts in
    let m = keys_groups _ c.self.inside.links c.self.invariant.counted c.live-live.ensures.counts in
    let v = c.self.view_is in
    IfOk-weaker c.targets.result _ _ (λ x e.
    e ∙ ap (λ hs. targets_of {w = g.row.W} hs (keys_of c.self.inside.links.groups)) n
    ∙ ap (λ gs. targets_of {w = g.row.W} (live_hops (values_of c.self.inside.routes.entries)) gs) m
    ∙ ap (λ (rows : Table). live {w = g.row.W} rows) v) c.targets.ensures

pub returns-clause-ascending : goal.returns-clause-ascending
returns-clause-ascending g c =
    IfOk-weaker c.targets.result _ _ (λ x e. subst (λ (ts : List (Target g.row.W)). IsStrictlySortedBy target_cmp ts) (sym e) (live_ascends g.row.W c.args.self.now)) (returns-clause-live g c)

pub returns-clause-most : goal.returns-clause-most
returns-clause-most g c =
    let few : length (live {w = g.row.W} c.self.inside.routes.entries) ≤ g.row.LIVE =
    let a = live_targets_are_counted g.row.W c.self.inside.routes.entries in
    let b = counted_live _ c.self.inside.links c.self.invariant.counted c.live-live.ensures.counts in
    let d = c.self.invariant.few in
    omega arith in
    let most = subst (λ (rows : Table). length (live {w = g.row.W} rows) ≤ g.row.LIVE) c.self.view_is few in
    IfOk-weaker c.targets.result _ _ (λ x e. subst (λ (ts : List (Target g.row.W)). length ts ≤ g.row.LIVE) (sym e) most) (returns-clause-live g c)

pub returns-clause-targets : goal.returns-clause-targets
returns-clause-targets g c =
    IfOk-weaker c.targets.result _ _ (λ x e. subst (λ (ts : List (Target g.row.W)). All IsTarget ts) (sym e) (live_targets g.row.W c.args.self.now)) (returns-clause-live g c)

pub returns-clause-closed : goal.returns-clause-closed
returns-clause-closed g c =
    IfOk-weaker c.targets.result _ _ (λ x e. subst (λ (ts : List (Target g.row.W)). AreClosed ts) (sym e) (live_closed g.row.W c.args.self.now)) (returns-clause-live g c)

pub returns-clause-rows : goal.returns-clause-rows
returns-clause-rows g c =
    let spreads = subst (λ (rows : Table). All IsSpread (values_of rows)) c.self.view_is c.self.invariant.lists in
    let lists = All-weaker IsSpread (λ s. IsPathList s.paths) (λ s is. is.list) (values_of c.args.self.now) spreads in
    IfOk-weaker c.targets.result _ _ (λ x e. subst (λ (ts : List (Target g.row.W)). LeadToLive ts c.args.self.now) (sym e) (rows_lead g.row.W c.args.self.now lists)) (returns-clause-live g c)
