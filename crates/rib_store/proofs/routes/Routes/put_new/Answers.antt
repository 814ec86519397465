use Rattle.std.proofs.Common.{◌≡◌, ap, refl, sym, ◌∙◌, subst, lit<, arith}
use Rattle.nhgrp_slots.specs.Spread.{Spread}
use Rattle.prefix_width.specs.Prefix.{Block}
use Rattle.rib_store.specs.Uses.{Uses, with_paths, without_paths, HasPaths}
use Rattle.rib_store.specs.Table.{Table, Outcome, settled, refused, paths_at, put_row}
use Rattle.rib_store.specs.Uses.{IsRib}
use Rattle.rib_store.specs.declared.command.Refusal.TheVariants.{TargetsFull, TableFull}
use Rattle.rib_store.specs.declared.command.Reply.TheVariants.{Added}
use Rattle.rib_store.proofs.CountedLemmas.{undone, HasPaths-with}
use Rattle.rib_store.proofs.ReplacedLemmas.{puts_new}
use Rattle.rib_store.proofs.routes.Routes.put_new.Goals as goal

pub returns-then-len-clause-table : goal.returns-then-len-clause-table
returns-then-len-clause-table g c =
    let r = puts_new g.row.LIVE c.self.inside.routes.entries c.self.inside.links c.args.prefix c.args.paths Added (ap (λ (rows : Table). paths_at rows c.args.prefix) c.self.view_is ∙ c.requires) c.len.ensures.ordered c.self.invariant c.live-live.ensures.counts c.as_slice-list.ensures.spread in
    let full : settled g.row.LIVE c.args.self.now c.args.prefix c.args.paths Added ≡ refused c.args.self.now TableFull =
    ap (λ (rows : Table). settled g.row.LIVE rows c.args.prefix c.args.paths Added) (sym c.self.view_is)
    ∙ r.table_full c.len.result c.len.ensures.len (omega arith)
    ∙ ap (λ (rows : Table). refused rows TableFull) c.self.view_is in
    sym (ap (λ (o : Outcome). o.table) full)

pub returns-then-len-clause-reply : goal.returns-then-len-clause-reply
returns-then-len-clause-reply g c =
    let r = puts_new g.row.LIVE c.self.inside.routes.entries c.self.inside.links c.args.prefix c.args.paths Added (ap (λ (rows : Table). paths_at rows c.args.prefix) c.self.view_is ∙ c.requires) c.len.ensures.ordered c.self.invariant c.live-live.ensures.counts c.as_slice-list.ensures.spread in
    let full : settled g.row.LIVE c.args.self.now c.args.prefix c.args.paths Added ≡ refused c.args.self.now TableFull =
    ap (λ (rows : Table). settled g.row.LIVE rows c.args.prefix c.args.paths Added) (sym c.self.view_is)
    ∙ r.table_full c.len.result c.len.ensures.len (omega arith)
    ∙ ap (λ (rows : Table). refused rows TableFull) c.self.view_is in
    sym (ap (λ (o : Outcome). o.reply) full)

pub returns-then-passes-clause-table :
    goal.returns-then-passes-clause-table
returns-then-passes-clause-table g c =
    let r = puts_new g.row.LIVE c.self.inside.routes.entries c.self.inside.links c.args.prefix c.args.paths Added (ap (λ (rows : Table). paths_at rows c.args.prefix) c.self.view_is ∙ c.requires) c.len.ensures.ordered c.self.invariant c.live-live.ensures.counts c.as_slice-list.ensures.spread in
    let full : settled g.row.LIVE c.args.self.now c.args.prefix c.args.paths Added ≡ refused c.args.self.now TargetsFull =
    ap (λ (rows : Table). settled g.row.LIVE rows c.args.prefix c.args.paths Added) (sym c.self.view_is)
    ∙ r.targets_full c.len.result _ c.len.ensures.len (omega arith) refl c.if-passes.ensures.over
    ∙ ap (λ (rows : Table). refused rows TargetsFull) c.self.view_is in
    sym (ap (λ (o : Outcome). o.table) full)

pub returns-then-passes-clause-reply :
    goal.returns-then-passes-clause-reply
returns-then-passes-clause-reply g c =
    let r = puts_new g.row.LIVE c.self.inside.routes.entries c.self.inside.links c.args.prefix c.args.paths Added (ap (λ (rows : Table). paths_at rows c.args.prefix) c.self.view_is ∙ c.requires) c.len.ensures.ordered c.self.invariant c.live-live.ensures.counts c.as_slice-list.ensures.spread in
    let full : settled g.row.LIVE c.args.self.now c.args.prefix c.args.paths Added ≡ refused c.args.self.now TargetsFull =
    ap (λ (rows : Table). settled g.row.LIVE rows c.args.prefix c.args.paths Added) (sym c.self.view_is)
    ∙ r.targets_full c.len.result _ c.len.ensures.len (omega arith) refl c.if-passes.ensures.over
    ∙ ap (λ (rows : Table). refused rows TargetsFull) c.self.view_is in
    sym (ap (λ (o : Outcome). o.reply) full)

pub invariant_of-self-in-Ok-None : goal.invariant_of-self-in-Ok-None
invariant_of-self-in-Ok-None g c =
    let r = puts_new g.row.LIVE c.self.inside.routes.entries c.self.inside.links c.args.prefix c.args.paths Added (ap (λ (rows : Table). paths_at rows c.args.prefix) c.self.view_is ∙ c.requires) c.len.ensures.ordered c.self.invariant c.live-live.ensures.counts c.as_slice-list.ensures.spread in
    subst (λ (rows : Table). IsRib g.row.LIVE rows c.link.new.self) (sym c.in-Ok-None.ensures.entries)
    (subst (λ (u : Uses). IsRib g.row.LIVE (put_row c.self.inside.routes.entries c.args.prefix c.args.paths) u) (sym c.in_ok-link.ensures.ok) (r.rib c.len.result _ c.len.ensures.len (omega arith) refl c.if-passes.ensures.within))

pub unlink-requires : goal.unlink-requires
unlink-requires g c =
    let back : c.in-Err.failed.value.1 ≡ c.args.paths = ap (λ (p : Block × Spread). p.1) c.in-Err.ensures.value_returned in
    let has = HasPaths-with c.self.inside.links c.args.paths in
    (lit< tt, (lit< tt, subst (λ (u : Uses). HasPaths u c.in-Err.failed.value.1) (sym c.in_ok-link.ensures.ok) (subst (λ (ps : Spread). HasPaths (with_paths c.self.inside.links c.args.paths) ps) (sym back) has)))

pub invariant_of-self-in-Err : goal.invariant_of-self-in-Err
invariant_of-self-in-Err g c =
    let back : c.in-Err.failed.value.1 ≡ c.args.paths = ap (λ (p : Block × Spread). p.1) c.in-Err.ensures.value_returned in
    let links : c.unlink.new.self ≡ c.self.inside.links =
    c.unlink.ensures
    ∙ ap (λ (u : Uses). without_paths u c.in-Err.failed.value.1) c.in_ok-link.ensures.ok
    ∙ ap (λ (ps : Spread). without_paths (with_paths c.self.inside.links c.args.paths) ps) back
    ∙ undone c.self.inside.links c.args.paths c.live-live.ensures.counts in
    subst (λ (rows : Table). IsRib g.row.LIVE rows c.unlink.new.self) (sym c.in-Err.ensures.err)
    (subst (λ (u : Uses). IsRib g.row.LIVE c.self.inside.routes.entries u) (sym links) c.self.invariant)

pub invariant_of-self-in-Err-2 : goal.invariant_of-self-in-Err-2
invariant_of-self-in-Err-2 g c =
    let back : c.in-Err.failed.value.1 ≡ c.args.paths = ap (λ (p : Block × Spread). p.1) c.in-Err.ensures.value_returned in
    let links : c.unlink.new.self ≡ c.self.inside.links =
    c.unlink.ensures
    ∙ ap (λ (u : Uses). without_paths u c.in-Err.failed.value.1) c.in_ok-link.ensures.ok
    ∙ ap (λ (ps : Spread). without_paths (with_paths c.self.inside.links c.args.paths) ps) back
    ∙ undone c.self.inside.links c.args.paths c.live-live.ensures.counts in
    subst (λ (rows : Table). IsRib g.row.LIVE rows c.unlink.new.self) (sym c.in-Err.ensures.err)
    (subst (λ (u : Uses). IsRib g.row.LIVE c.self.inside.routes.entries u) (sym links) c.self.invariant)

pub returns-in-Ok-None-clause-table : goal.returns-in-Ok-None-clause-table
returns-in-Ok-None-clause-table g c =
    let r = puts_new g.row.LIVE c.self.inside.routes.entries c.self.inside.links c.args.prefix c.args.paths Added (ap (λ (rows : Table). paths_at rows c.args.prefix) c.self.view_is ∙ c.requires) c.len.ensures.ordered c.self.invariant c.live-live.ensures.counts c.as_slice-list.ensures.spread in
    let done =
    ap (λ (rows : Table). settled g.row.LIVE rows c.args.prefix c.args.paths Added) (sym c.self.view_is)
    ∙ r.done c.len.result _ c.len.ensures.len (omega arith) refl c.if-passes.ensures.within in
    c.in-Ok-None.ensures.entries ∙ sym (ap (λ (o : Outcome). o.table) done)

pub returns-in-Ok-None-clause-reply : goal.returns-in-Ok-None-clause-reply
returns-in-Ok-None-clause-reply g c =
    let r = puts_new g.row.LIVE c.self.inside.routes.entries c.self.inside.links c.args.prefix c.args.paths Added (ap (λ (rows : Table). paths_at rows c.args.prefix) c.self.view_is ∙ c.requires) c.len.ensures.ordered c.self.invariant c.live-live.ensures.counts c.as_slice-list.ensures.spread in
    let done =
    ap (λ (rows : Table). settled g.row.LIVE rows c.args.prefix c.args.paths Added) (sym c.self.view_is)
    ∙ r.done c.len.result _ c.len.ensures.len (omega arith) refl c.if-passes.ensures.within in
    sym (ap (λ (o : Outcome). o.reply) done)
