use Rattle.std.proofs.Common.{◌≡◌, ◌+◌, ◌-◌, ◌<◌, ◌≤◌, sym, ◌∙◌, ap, arith, Some, length, get_or, subst}
use Rattle.std.specs.List.{slice_get}
use Rattle.std.specs.Map.{values_of}
use Rattle.nhop_index.specs.Table.{IsEnd}
use Rattle.nhop_index.proofs.SearchLemmas.{item_at}
use Rattle.nhop_index.proofs.PlaceLemmas.{ArePlacesFrom, places_start, places_step, places_done, used_at}
use Rattle.nhop_index.proofs.places.places_of.Goals as goal

pub place-init : goal.place-init
place-init g c = subst (λ ps. ArePlacesFrom c.args.names.now ps (length c.args.names.now)) (sym c.in_ok-places.ensures) (places_start c.args.names.now c.end_of.result c.end_of.ensures)

pub index_mut-requires : goal.index_mut-requires
index_mut-requires g c =
    let names = c.args.names.now in
    let place = c.place.place - 1 in
    let within : place < length names = let h = c.place.invariant.inside in let k = c.place-test.true in omega arith in
    let at = item_at names place c.index-names-place.result within c.index-names-place.is in
    let room = c.place.invariant.ends.above _ (used_at names place c.index-names-place.result at) in
    let index = c.from.ensures ∙ ap (λ e. e.1) (sym c.index-names-place.is) in
    omega (arith, room, index)

pub place-preserved : goal.place-preserved
place-preserved g c =
    let names = c.args.names.now in
    let place = c.place.place - 1 in
    let within : place < length names = let h = c.place.invariant.inside in let k = c.place-test.true in omega arith in
    let at = item_at names place c.index-names-place.result within c.index-names-place.is in
    let index : c.from.result ≡ c.index-names-place.result.1 = c.from.ensures ∙ ap (λ e. e.1) (sym c.index-names-place.is) in
    let next : place + 1 ≡ c.place.place = let k = c.place-test.true in omega arith in
    rw index (places_step names c.place.places.items place c.index-names-place.result (rw next c.place.invariant) at)
