use Rattle.std.proofs.Common.{◌≡◌, ◌∙◌, ◌+◌, ℕ, List, length, ap, subst, sym, lit<}
use Rattle.engine_set.specs.Image.{Picture}
use Rattle.nhgrp_slots.specs.declared.target.Target.{Target}
use Rattle.nhop_index.specs.Indexes.{target_at}
use Rattle.rib_store.specs.Table.{Table}
use Rattle.fib_sync.specs.Control.{IsImage}
use Rattle.fib_sync.specs.Entries.{IsClosed, KeepIndexes}
use Rattle.fib_sync.specs.Lawful.{AreEntriesOf, IsLawful}
use Rattle.fib_sync.specs.VersionNames.{names_at}
use Rattle.fib_sync.proofs.ControlLemmas.{image_is}
use Rattle.fib_sync.proofs.EntriesLemmas.{if_ok}
use Rattle.fib_sync.proofs.NamingLemmas.{closed_at, kept_at}
use Rattle.fib_sync.proofs.next_version.next_image.Goals as goal

pub entries_after-requires : goal.entries_after-requires
entries_after-requires g c =
    let K = g.row.K in
    let most = g.row.LIVE in
    let plan = c.args.runner.now.plan in
    let v = c.args.last.now.version in
    let two = c.len.ensures.indexes.banks.0 in
    let closed = subst (λ (ns : List (Target g.row.W × ℕ)). IsClosed (target_at ns)) (sym c.requires.indexes) (closed_at K most plan two (v + 1)) in
    let next = subst (λ (ns : List (Target g.row.W × ℕ)). KeepIndexes (names_at K most plan v) (target_at ns)) (sym c.requires.indexes) (kept_at K most plan v) in
    let keep = subst (λ (ns : List (Target g.row.W × ℕ)). KeepIndexes (target_at ns) (target_at c.args.indexes.now.names)) (sym c.requires.before) next in
    let entries = subst (λ (ns : List (Target g.row.W × ℕ)). AreEntriesOf (target_at ns) c.args.last.now.entries) (sym c.requires.before) c.requires.last.lawful.entries in
    (lit< tt, (closed, (keep, subst (AreEntriesOf (target_at c.args.before.now.names)) (sym c.entries.ensures) entries)))

pub make_lawful-requires : goal.make_lawful-requires
make_lawful-requires g c =
    let r = c.args.runner.now in
    let v = c.args.last.now.version in
    let two = c.len.ensures.indexes.banks.0 in
    let made = c.made-made.ensures in
    let planned = c.deref.ensures ∙ c.plan.ensures in
    let image = image_is g.row.K g.row.LIVE r c.commands.ensures.run v c.made-made.result.number c.made-made.result.count c.len-routes.result c.args.engine c.in_ok-entries.entries c.in_ok-fresh.fresh.items c.deref.result.now c.args.before.now.names c.args.indexes.now.names
    two c.requires.number c.requires.count made.number made.count (c.len-routes.ensures.count ∙ ap (λ (t : Table). length t) c.rib.ensures.rows) c.requires.kind c.requires.stands
    planned c.requires.before c.requires.indexes c.in_ok-entries.ensures c.in_ok-fresh.ensures in
    let names = names_at g.row.K g.row.LIVE r.plan (v + 1) in
    let pictured : Picture g.row.W = record { version = c.made-made.result.number; count = c.made-made.result.count; routes = c.len-routes.result; engine = c.args.engine; entries = c.in_ok-entries.entries; fresh = c.in_ok-fresh.fresh.items } in
    (lit< tt, (lit< tt, (g.row.LIVE, r.plan, names, subst (λ n. IsLawful g.row.LIVE r.plan names n pictured) (sym (made.number ∙ c.requires.number)) image.lawful)))

pub returns-clause-image : goal.returns-clause-image
returns-clause-image g c =
    let r = c.args.runner.now in
    let v = c.args.last.now.version in
    let two = c.len.ensures.indexes.banks.0 in
    let made = c.made-made.ensures in
    let planned = c.deref.ensures ∙ c.plan.ensures in
    let image = image_is g.row.K g.row.LIVE r c.commands.ensures.run v c.made-made.result.number c.made-made.result.count c.len-routes.result c.args.engine c.in_ok-entries.entries c.in_ok-fresh.fresh.items c.deref.result.now c.args.before.now.names c.args.indexes.now.names
    two c.requires.number c.requires.count made.number made.count (c.len-routes.ensures.count ∙ ap (λ (t : Table). length t) c.rib.ensures.rows) c.requires.kind c.requires.stands
    planned c.requires.before c.requires.indexes c.in_ok-entries.ensures c.in_ok-fresh.ensures in
    let pictured : Picture g.row.W = record { version = c.made-made.result.number; count = c.made-made.result.count; routes = c.len-routes.result; engine = c.args.engine; entries = c.in_ok-entries.entries; fresh = c.in_ok-fresh.fresh.items } in
    if_ok (λ (i : Picture g.row.W). i ≡ pictured) (IsImage g.row.K g.row.LIVE r.plan (v + 1)) c.make_lawful.result (λ i e. subst (IsImage g.row.K g.row.LIVE r.plan (v + 1)) (sym e) image) c.make_lawful.ensures
