use Rattle.std.proofs.Common.{◌≡◌, ℕ, arith, refl, rules, sym, ap, ◌∙◌, subst, Some, List, length}
use Rattle.std.specs.Prelude.{IsSome, option_and_then}
use Rattle.std.specs.Arc.{arc_slice_items}
use Rattle.std.proofs.lemmas.Option.{slice_get_within}
use Rattle.engine_set.specs.declared.entry.Entry.{Entry}
use Rattle.engine_set.specs.declared.entry.Place.{Place}
use Rattle.engine_set.specs.Entry.{ArePlaced, entry_at, through}
use Rattle.engine_set.proofs.EntryLemmas.{IsPlaced, entry_placed, entry_read, group_at, nexthop_at, not_vacant, place_read}
use Rattle.engine_set.proofs.entries.Entries.pick.Goals as goal

-- the index has an entry, which has a place
placed_of : (es now : List Entry) (places : List Place) (i : ℕ) → ArePlaced es places → es ≡ now → IsSome (entry_at now i) → IsPlaced es places i
placed_of es now places i is same there = entry_placed es places i is.placed (subst (λ xs. IsSome (entry_at xs i)) (sym same) there)

-- an index whose entry gives this leads to it
leads_to : (es now : List Entry) (i flow r : ℕ) (e x : Entry) → es ≡ now → entry_at es i ≡ Some x → e ≡ x → through flow e ≡ Some r → option_and_then (through flow) (entry_at now i) ≡ Some r
leads_to es now i flow r e x same found is h = ap (λ xs. option_and_then (through flow) (entry_at xs i)) (sym same) ∙ ap (option_and_then (through flow)) found ∙ sym (ap (through flow) is) ∙ h

pub bounds : goal.bounds
bounds c =
    let p = placed_of (arc_slice_items c.self.inside.entries) c.args.self.now (arc_slice_items c.self.inside.places) c.args.index c.self.invariant c.self.view_is c.requires in
    let w = slice_get_within (arc_slice_items c.self.inside.places) c.args.index _ p.placed in
    omega (arith, w)

pub bounds-as_slice-from-in-Group : goal.bounds-as_slice-from-in-Group
bounds-as_slice-from-in-Group c =
    let es = arc_slice_items c.self.inside.entries in
    let places = arc_slice_items c.self.inside.places in
    let p = placed_of es c.args.self.now places c.args.index c.self.invariant c.self.view_is c.requires in
    let at = group_at es places c.args.index c.in-Group.place p (place_read es places c.as_slice.result.now c.args.index c.from.result _ p c.as_slice.ensures.value c.from.ensures c.in-Group.is) in
    let w = slice_get_within es c.in-Group.place p.entry at in
    omega (arith, w)

pub returns-in-Group : goal.returns-in-Group
returns-in-Group c =
    let es = arc_slice_items c.self.inside.entries in
    let places = arc_slice_items c.self.inside.places in
    let p = placed_of es c.args.self.now places c.args.index c.self.invariant c.self.view_is c.requires in
    let at = group_at es places c.args.index c.in-Group.place p (place_read es places c.as_slice.result.now c.args.index c.from.result _ p c.as_slice.ensures.value c.from.ensures c.in-Group.is) in
    let e = c.index-as_slice-from.result in
    let same = entry_read es c.as_slice-in-Group.result.now c.in-Group.place c.from-in-Group.result p.entry e c.as_slice-in-Group.ensures.value c.from-in-Group.ensures at c.index-as_slice-from.is in
    leads_to es c.args.self.now c.args.index c.args.flow c.pick.result e p.entry c.self.view_is p.found same c.pick.ensures

pub returns-in-Nexthop : goal.returns-in-Nexthop
returns-in-Nexthop c =
    let es = arc_slice_items c.self.inside.entries in
    let places = arc_slice_items c.self.inside.places in
    let p = placed_of es c.args.self.now places c.args.index c.self.invariant c.self.view_is c.requires in
    let is = nexthop_at es places c.args.index c.in-Nexthop.field-0 p (place_read es places c.as_slice.result.now c.args.index c.from.result _ p c.as_slice.ensures.value c.from.ensures c.in-Nexthop.is) in
    leads_to es c.args.self.now c.args.index c.args.flow c.args.index p.entry p.entry c.self.view_is p.found refl (ap (through c.args.flow) is)

pub unreachable-requires : goal.unreachable-requires
unreachable-requires c =
    let es = arc_slice_items c.self.inside.entries in
    let places = arc_slice_items c.self.inside.places in
    let p = placed_of es c.args.self.now places c.args.index c.self.invariant c.self.view_is c.requires in
    not_vacant es places c.args.index p (place_read es places c.as_slice.result.now c.args.index c.from.result _ p c.as_slice.ensures.value c.from.ensures (search rules))
