use Rattle.std.proofs.Common.{◌≡◌, ◌<◌, ℕ, sym, ◌∙◌, ap, arith, get_or, length}
use Rattle.std.specs.Map.{keys_of}
use Rattle.std.proofs.lemmas.List.{get_or-map, get_or_default, take_more_same}
use Rattle.std.proofs.lemmas.Map.Entries.{length-keys_of}
use Rattle.nhgrp_slots.specs.declared.target.Target.{Target}
use Rattle.nhop_index.proofs.naming.are_live.Goals as goal

pub loop-i-preserved : goal.loop-i-preserved
loop-i-preserved g c =
    let names = c.args.names.now in
    let i = c.loop-i.i in
    let x = c.index-names-i.result in
    let len = length-keys_of names in
    let inside : i < length names = let h = c.if-names-live.false in let k = c.loop-i-test.true in omega arith in
    let key : get_or (keys_of names) i x.0 ≡ (get_or names i x).0 = get_or-map (λ (e : Target g.row.W × ℕ). e.0) names i x x.0 inside in
    let same : (get_or names i x).0 ≡ c.index-live-i.result = c.are_same.ensures c.if-not-are_same.false in
    let live : get_or c.args.live.now i x.0 ≡ c.index-live-i.result = get_or_default c.args.live.now i x.0 c.index-live-i.result c.loop-i-test.true ∙ sym c.index-live-i.is in
    take_more_same (keys_of names) c.args.live.now i x.0 (omega (arith, inside, len)) c.loop-i-test.true c.loop-i.invariant (key ∙ same ∙ sym live)
