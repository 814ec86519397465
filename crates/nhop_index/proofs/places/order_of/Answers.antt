use Rattle.std.proofs.Common.{None, get_or}
use Rattle.std.proofs.lemmas.List.{get_or_default}
use Rattle.nhop_index.proofs.PlaceLemmas.{order_step}
use Rattle.nhop_index.proofs.places.order_of.Goals as goal

pub loop-place-preserved : goal.loop-place-preserved
loop-place-preserved g c =
    let i = c.loop-place.place-index in
    let places = c.args.places.now in
    let p = get_or places i None in
    rw c.in_ok-push_place.ensures (order_step c.args.names.now places i p c.loop-place.order.items c.requires c.loop-place-test.true (get_or_default places i None p c.loop-place-test.true) c.loop-place.invariant)
