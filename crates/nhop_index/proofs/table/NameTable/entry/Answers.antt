use Rattle.std.proofs.Common.{◌≡◌, ℕ, ◌<◌, sym, ◌∙◌, ap, arith, Some, Option, length, get_or}
use Rattle.std.specs.List.{slice_get}
use Rattle.std.proofs.lemmas.Option.{slice_get_within}
use Rattle.nhgrp_slots.specs.declared.target.Target.{Target}
use Rattle.nhop_index.specs.Indexes.{by_index}
use Rattle.nhop_index.proofs.SearchLemmas.{item_at}
use Rattle.nhop_index.proofs.PlaceLemmas.{order_at, length-order}
use Rattle.nhop_index.proofs.table.NameTable.entry.Goals as goal

pub index-name-requires : goal.index-name-requires
index-name-requires g c =
    let inside = c.self.inside in
    let view = c.self.view_is in
    let l = length-order inside.names.items inside.order.items c.self.invariant.ordered in
    let more : c.from.result < length (by_index inside.names.items) = let k = c.requires in let f = c.from.ensures in let v = ap (λ ns. length (by_index ns)) view in omega arith in
    let at = item_at inside.order.items c.from.result c.index.result.now (omega (arith, l, more)) c.index.ensures in
    let b = order_at inside.names.items inside.order.items c.from.result c.index.result.now c.self.invariant.ordered more at in
    let w = slice_get_within inside.names.items c.index.result.now _ b.2 in
    omega (arith, w, c.from-2.ensures, inside.names.ok)

pub returns : goal.returns
returns g c =
    let inside = c.self.inside in
    let names = inside.names.items in
    let name = c.index-name.result.now in
    let view = c.self.view_is in
    let l = length-order names inside.order.items c.self.invariant.ordered in
    let more : c.from.result < length (by_index names) = let k = c.requires in let f = c.from.ensures in let v = ap (λ ns. length (by_index ns)) view in omega arith in
    let at = item_at inside.order.items c.from.result c.index.result.now (omega (arith, l, more)) c.index.ensures in
    let b = order_at names inside.order.items c.from.result c.index.result.now c.self.invariant.ordered more at in
    let within : c.from-2.result < length names = let w = slice_get_within names c.index.result.now _ b.2 in let f = c.from-2.ensures in omega arith in
    let here : slice_get names c.index.result.now ≡ Some name = ap (slice_get names) (sym c.from-2.ensures) ∙ item_at names c.from-2.result name within c.index-name.ensures in
    let one : Some name ≡ Some (b.0.1, b.0.0) = sym here ∙ b.2 in
    let same : name ≡ (b.0.1, b.0.0) = cc in
    let index : c.from.result ≡ c.args.i = c.from.ensures in
    let found : slice_get (by_index names) c.args.i ≡ Some b.0 = ap (slice_get (by_index names)) (sym index) ∙ b.1 in
    ap (λ ns. slice_get (by_index ns) c.args.i) (sym view) ∙ found ∙ ap (λ (e : Target g.row.W × ℕ). let o : Option (ℕ × Target g.row.W) = Some (e.1, e.0) in o) (sym same)
