use Rattle.std.proofs.Common.{◌≡◌, arith, sym, ap, ◌∙◌, subst, Some, None, length, Option}
use Rattle.std.specs.Prelude.{option_copied}
use Rattle.std.specs.Arc.{arc_slice_items}
use Rattle.std.proofs.lemmas.Option.{slice_get_within}
use Rattle.engine_set.specs.Entry.{entry_at, place_at}
use Rattle.engine_set.proofs.EntryLemmas.{entry_read, none_at, some_at}
use Rattle.engine_set.proofs.entries.Entries.at.Goals as goal

pub returns-in_err-place : goal.returns-in_err-place
returns-in_err-place c =
    let es = arc_slice_items c.self.inside.entries in
    let places = arc_slice_items c.self.inside.places in
    let none : place_at places c.args.index ≡ None = ap (λ ps. place_at ps c.args.index) (sym c.as_slice.ensures.value) ∙ sym c.in_err-place.ensures in
    rw (← c.self.view_is, none_at es places c.args.index c.self.invariant none) (ap option_copied c.from_residual.ensures)

pub bounds-as_slice-from : goal.bounds-as_slice-from
bounds-as_slice-from c =
    let es = arc_slice_items c.self.inside.entries in
    let places = arc_slice_items c.self.inside.places in
    let read : place_at places c.args.index ≡ Some c.in_ok-place.place = ap (λ ps. place_at ps c.args.index) (sym c.as_slice.ensures.value) ∙ sym c.in_ok-place.ensures in
    let at = some_at es places c.args.index c.in_ok-place.place c.self.invariant read in
    let w = slice_get_within es c.in_ok-place.place at.0 at.1 in
    omega (arith, w)

pub returns : goal.returns
returns c =
    let es = arc_slice_items c.self.inside.entries in
    let places = arc_slice_items c.self.inside.places in
    let read : place_at places c.args.index ≡ Some c.in_ok-place.place = ap (λ ps. place_at ps c.args.index) (sym c.as_slice.ensures.value) ∙ sym c.in_ok-place.ensures in
    let at = some_at es places c.args.index c.in_ok-place.place c.self.invariant read in
    let same = entry_read es c.as_slice-2.result.now c.in_ok-place.place c.from.result at.0 c.index-as_slice-from.result c.as_slice-2.ensures.value c.from.ensures at.1 c.index-as_slice-from.is in
    ap (λ e. Some e) same ∙ sym at.2 ∙ ap (λ xs. entry_at xs c.args.index) c.self.view_is
