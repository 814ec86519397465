use Rattle.std.proofs.Common.{◌≡◌, ℕ, ◌<◌, sym, ◌∙◌, ap, arith, Some, None, Option, length}
use Rattle.std.specs.List.{slice_get}
use Rattle.std.specs.Option.{option_map}
use Rattle.nhgrp_slots.specs.declared.target.Target.{Target}
use Rattle.nhop_index.specs.Indexes.{target_at}
use Rattle.nhop_index.specs.Table.{place_at, entry_at}
use Rattle.nhop_index.proofs.SearchLemmas.{item_at}
use Rattle.nhop_index.proofs.PlaceLemmas.{target_by_place}
use Rattle.nhop_index.proofs.table.NameTable.target_of.Goals as goal

pub returns-in-Some : goal.returns-in-Some
returns-in-Some g c =
    let inside = c.self.inside in
    let names = inside.names.items in
    let place = c.in-Some.place in
    let here : place_at inside.places.items c.args.index ≡ Some place = rw (c.deref.ensures.value, c.from.ensures) at (sym c.place_at.ensures ∙ c.in-Some.is) in
    let within : place < length names = c.self.invariant.placed.valid c.args.index place here in
    let name : c.index.result.now ≡ _ = c.index.ensures in
    let at : slice_get names place ≡ Some c.index.result.now = item_at names place c.index.result.now within (rw c.from-in-Some.ensures at name) in
    let found : target_at names c.args.index ≡ Some c.index.result.now.0 =
    target_by_place names inside.places.items c.args.index c.self.invariant.placed
    ∙ ap (λ (o : Option ℕ). option_map (λ (e : Target g.row.W × ℕ). e.0) (entry_at names o)) here
    ∙ ap (option_map (λ (e : Target g.row.W × ℕ). e.0)) at in
    sym (ap (λ ns. target_at ns c.args.index) (sym c.self.view_is) ∙ found)

pub returns-in-None : goal.returns-in-None
returns-in-None g c =
    let inside = c.self.inside in
    let names = inside.names.items in
    let here : place_at inside.places.items c.args.index ≡ None = rw (c.deref.ensures.value, c.from.ensures) at (sym c.place_at.ensures ∙ c.in-None.is) in
    let found : target_at names c.args.index ≡ None =
    target_by_place names inside.places.items c.args.index c.self.invariant.placed
    ∙ ap (λ (o : Option ℕ). option_map (λ (e : Target g.row.W × ℕ). e.0) (entry_at names o)) here in
    sym (ap (λ ns. target_at ns c.args.index) (sym c.self.view_is) ∙ found)
