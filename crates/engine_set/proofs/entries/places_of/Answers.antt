use Rattle.std.proofs.Common.{◌≡◌, arith, length, refl, ap, ◌∙◌}
use Rattle.std.proofs.lemmas.List.{length-set}
use Rattle.std.proofs.lemmas.Option.{slice_get_read, get_or_from_slice_get}
use Rattle.engine_set.specs.Entry.{entry_index, place_for}
use Rattle.engine_set.proofs.EntryLemmas.{place_fits, placed_more, only_more, only_vacant}
use Rattle.engine_set.proofs.entries.places_of.Goals as goal

pub overflow_cast-k : goal.overflow_cast-k
overflow_cast-k c =
    let es = c.args.entries.now in
    let k = c.loop-k.k in
    let e = c.index-entries-k.result in
    let at = slice_get_read es (length es) k e refl c.loop-k-test.true c.index-entries-k.is in
    let fits = place_fits es k e c.requires at in
    let small = c.index-index.type_inv in
    omega (arith, c.index-index.ensures)

pub index_mut-requires : goal.index_mut-requires
index_mut-requires c =
    let es = c.args.entries.now in
    let k = c.loop-k.k in
    let e = c.index-entries-k.result in
    let at = slice_get_read es (length es) k e refl c.loop-k-test.true c.index-entries-k.is in
    let room = c.loop-k.invariant.room k e at in
    omega (arith, c.index-index.ensures, c.from.ensures, c.loop-k.places.ok.0)

pub loop-k-preserved : goal.loop-k-preserved
loop-k-preserved c =
    let es = c.args.entries.now in
    let k = c.loop-k.k in
    let e = c.index-entries-k.result in
    let at = slice_get_read es (length es) k e refl c.loop-k-test.true c.index-entries-k.is in
    let room = c.loop-k.invariant.room k e at in
    let from : c.from.result ≡ entry_index e = omega (arith, c.index-index.ensures, c.from.ensures) in
    let again : c.index-entries-k-in-loop-k.result ≡ e =
    c.index-entries-k-in-loop-k.is ∙ get_or_from_slice_get es k e c.index-entries-k-in-loop-k.result at in
    let of : c.of.result ≡ place_for e k = c.of.ensures ∙ ap (λ x. place_for x k) again in
    rw (from, of) (record {
      room = λ j f h. let r = c.loop-k.invariant.room j f h in rw length-set r;
      placed = placed_more es c.loop-k.places.items k e c.requires at room c.loop-k.invariant.placed;
      only = only_more es c.loop-k.places.items k e at c.loop-k.invariant.only;
    })
