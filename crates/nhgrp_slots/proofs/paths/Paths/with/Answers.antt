use Rattle.std.proofs.Common.{◌≡◌, ◌∙◌, ap, sym, subst, arith}
use Rattle.std.specs.Prelude.{IfOk}
use Rattle.nhgrp_slots.specs.Layout.{layout_of}
use Rattle.nhgrp_slots.specs.PathList.{IsPathList, put_path}
use Rattle.nhgrp_slots.specs.Slots.{HaveWeights}
use Rattle.nhgrp_slots.specs.Spread.{Spread, spread}
use Rattle.nhgrp_slots.proofs.PathLemmas.{put_in}
use Rattle.nhgrp_slots.proofs.SpreadLemmas.{same_spread, spreads_are_of_paths}
use Rattle.nhgrp_slots.proofs.paths.Paths.with.Goals as goal

pub layout_of-requires : goal.layout_of-requires
layout_of-requires g c =
    let whole = put_in c.args.self.now.paths _ _ _ _ c.args.path c.place_of-place.result c.in_ok-paths.ensures.items c.as_slice-present.ensures.items c.in_ok-extend_from_slice.ensures.items c.place_of-place.ensures.place c.in_ok-insert.ensures.items in
    (omega arith, subst IsPathList (sym (c.deref.ensures.value ∙ whole)) c.requires)

pub made-requires : goal.made-requires
made-requires g c =
    let whole = put_in c.args.self.now.paths _ _ _ _ c.args.path c.place_of-place.result c.in_ok-paths.ensures.items c.as_slice-present.ensures.items c.in_ok-extend_from_slice.ensures.items c.place_of-place.ensures.place c.in_ok-insert.ensures.items in
    let same : c.deref.result.now ≡ put_path c.args.self.now.paths c.args.path = c.deref.ensures.value ∙ whole in
    let have : HaveWeights (put_path c.args.self.now.paths c.args.path) = subst HaveWeights same c.in_ok-layout.ensures.weights in
    (omega arith, (omega arith, same_spread _ _ _ _ whole (c.in_ok-layout.ensures.value ∙ ap layout_of same) (spreads_are_of_paths (put_path c.args.self.now.paths c.args.path) c.requires have)))

pub returns : goal.returns
returns g c =
    let whole = put_in c.args.self.now.paths _ _ _ _ c.args.path c.place_of-place.result c.in_ok-paths.ensures.items c.as_slice-present.ensures.items c.in_ok-extend_from_slice.ensures.items c.place_of-place.ensures.place c.in_ok-insert.ensures.items in
    let same : c.deref.result.now ≡ put_path c.args.self.now.paths c.args.path = c.deref.ensures.value ∙ whole in
    let layout = c.in_ok-layout.ensures.value ∙ ap layout_of same in
    let made : ◌≡◌ {A = Spread} (record { paths = c.insert.new.self.items; layout = c.in_ok-layout.layout.items }) (spread (put_path c.args.self.now.paths c.args.path)) = λ i. record { paths = whole i; layout = layout i } in
    subst (λ (s : Spread). IfOk c.made.result (λ p. p ≡ s)) made c.made.ensures
