use Rattle.std.proofs.Common.{◌≡◌, ap, refl, sym, ◌∙◌, subst, lit<}
use Rattle.std.specs.Map.{set_value}
use Rattle.std.specs.BTreeMap.{is_at}
use Rattle.nhgrp_slots.specs.Spread.{Spread}
use Rattle.prefix_width.specs.Order.{block_cmp}
use Rattle.rib_store.specs.Table.{Table, Outcome, put_row}
use Rattle.rib_store.specs.Uses.{Uses, IsRib, HasPaths, with_paths, without_paths}
use Rattle.rib_store.proofs.ReplacedLemmas.{replaces, on_err}
use Rattle.rib_store.proofs.routes.replace.Goals as goal

pub passes-requires : goal.passes-requires
passes-requires g c =
    let r = replaces g.row.LIVE c.args.routes.now.entries c.args.links.now c.args.prefix.now c.in-Some.present.now c.args.paths c.args.reply c.in-Some.ensures.value c.in-Some.ensures.ordered c.requires c.live-live.ensures.counts c.as_slice-list.ensures.spread in
    (lit< tt, (lit< tt, (r.room, r.has)))

pub returns-then-passes-clause-rib :
    goal.returns-then-passes-clause-rib
returns-then-passes-clause-rib g c =
    let r = replaces g.row.LIVE c.args.routes.now.entries c.args.links.now c.args.prefix.now c.in-Some.present.now c.args.paths c.args.reply c.in-Some.ensures.value c.in-Some.ensures.ordered c.requires c.live-live.ensures.counts c.as_slice-list.ensures.spread in
    subst (λ (rows : Table). IsRib g.row.LIVE rows c.args.links.now) (sym ((c.get_mut.follows.holds c.in-Some.present.now).0 ∙ r.same)) c.requires

pub returns-then-passes-clause-table :
    goal.returns-then-passes-clause-table
returns-then-passes-clause-table g c =
    let r = replaces g.row.LIVE c.args.routes.now.entries c.args.links.now c.args.prefix.now c.in-Some.present.now c.args.paths c.args.reply c.in-Some.ensures.value c.in-Some.ensures.ordered c.requires c.live-live.ensures.counts c.as_slice-list.ensures.spread in
    (c.get_mut.follows.holds c.in-Some.present.now).0 ∙ r.same ∙ sym (ap (λ (o : Outcome). o.table) (r.full _ refl c.if-passes.ensures.over))

pub returns-then-passes-clause-reply :
    goal.returns-then-passes-clause-reply
returns-then-passes-clause-reply g c =
    let r = replaces g.row.LIVE c.args.routes.now.entries c.args.links.now c.args.prefix.now c.in-Some.present.now c.args.paths c.args.reply c.in-Some.ensures.value c.in-Some.ensures.ordered c.requires c.live-live.ensures.counts c.as_slice-list.ensures.spread in
    sym (ap (λ (o : Outcome). o.reply) (r.full _ refl c.if-passes.ensures.over))

pub returns-in_err-link-clause-rib : goal.returns-in_err-link-clause-rib
returns-in_err-link-clause-rib g c =
    let r = replaces g.row.LIVE c.args.routes.now.entries c.args.links.now c.args.prefix.now c.in-Some.present.now c.args.paths c.args.reply c.in-Some.ensures.value c.in-Some.ensures.ordered c.requires c.live-live.ensures.counts c.as_slice-list.ensures.spread in
    subst (λ (rows : Table). IsRib g.row.LIVE rows c.link.new.self) (sym ((c.get_mut.follows.holds c.in-Some.present.now).0 ∙ r.same))
    (subst (λ (u : Uses). IsRib g.row.LIVE c.args.routes.now.entries u) (sym c.in_err-link.ensures.err) c.requires)

pub returns-in_err-link-clause-err : goal.returns-in_err-link-clause-err
returns-in_err-link-clause-err g c =
    let r = replaces g.row.LIVE c.args.routes.now.entries c.args.links.now c.args.prefix.now c.in-Some.present.now c.args.paths c.args.reply c.in-Some.ensures.value c.in-Some.ensures.ordered c.requires c.live-live.ensures.counts c.as_slice-list.ensures.spread in
    on_err c.from_residual.result ((c.get_mut.follows.holds c.in-Some.present.now).0 ∙ r.same)

pub unlink-requires : goal.unlink-requires
unlink-requires g c =
    let r = replaces g.row.LIVE c.args.routes.now.entries c.args.links.now c.args.prefix.now c.in-Some.present.now c.args.paths c.args.reply c.in-Some.ensures.value c.in-Some.ensures.ordered c.requires c.live-live.ensures.counts c.as_slice-list.ensures.spread in
    (lit< tt, (lit< tt, subst (λ (u : Uses). HasPaths u c.replace-old.result) (sym c.in_ok-link.ensures.ok) (subst (λ (ps : Spread). HasPaths (with_paths c.args.links.now c.args.paths) ps) (sym c.replace-old.ensures.value) r.has)))

pub returns-clause-rib : goal.returns-clause-rib
returns-clause-rib g c =
    let r = replaces g.row.LIVE c.args.routes.now.entries c.args.links.now c.args.prefix.now c.in-Some.present.now c.args.paths c.args.reply c.in-Some.ensures.value c.in-Some.ensures.ordered c.requires c.live-live.ensures.counts c.as_slice-list.ensures.spread in
    let put = (c.get_mut.follows.holds c.replace-old.new.dest).0 ∙ ap (set_value (is_at (block_cmp c.args.prefix.now)) c.args.routes.now.entries) c.replace-old.ensures.after ∙ r.put in
    let links : c.unlink.new.self ≡ without_paths (with_paths c.args.links.now c.args.paths) c.in-Some.present.now =
    c.unlink.ensures
    ∙ ap (λ (u : Uses). without_paths u c.replace-old.result) c.in_ok-link.ensures.ok
    ∙ ap (λ (ps : Spread). without_paths (with_paths c.args.links.now c.args.paths) ps) c.replace-old.ensures.value in
    subst (λ (rows : Table). IsRib g.row.LIVE rows c.unlink.new.self) (sym put)
    (subst (λ (u : Uses). IsRib g.row.LIVE (put_row c.args.routes.now.entries c.args.prefix.now c.args.paths) u) (sym links) (r.rib _ refl c.if-passes.ensures.within))

pub returns-clause-table : goal.returns-clause-table
returns-clause-table g c =
    let r = replaces g.row.LIVE c.args.routes.now.entries c.args.links.now c.args.prefix.now c.in-Some.present.now c.args.paths c.args.reply c.in-Some.ensures.value c.in-Some.ensures.ordered c.requires c.live-live.ensures.counts c.as_slice-list.ensures.spread in
    (c.get_mut.follows.holds c.replace-old.new.dest).0
    ∙ ap (set_value (is_at (block_cmp c.args.prefix.now)) c.args.routes.now.entries) c.replace-old.ensures.after
    ∙ r.put
    ∙ sym (ap (λ (o : Outcome). o.table) (r.done _ refl c.if-passes.ensures.within))

pub returns-clause-reply : goal.returns-clause-reply
returns-clause-reply g c =
    let r = replaces g.row.LIVE c.args.routes.now.entries c.args.links.now c.args.prefix.now c.in-Some.present.now c.args.paths c.args.reply c.in-Some.ensures.value c.in-Some.ensures.ordered c.requires c.live-live.ensures.counts c.as_slice-list.ensures.spread in
    sym (ap (λ (o : Outcome). o.reply) (r.done _ refl c.if-passes.ensures.within))
