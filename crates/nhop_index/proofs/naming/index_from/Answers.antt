use Rattle.std.proofs.Common.{◌≡◌, ◌≤◌, ◌<◌, sym, ◌∙◌, ap, arith, Some, length, get_or}
use Rattle.std.specs.declared.cmp.Ordering.TheVariants.{Less, Equal, Greater}
use Rattle.std.specs.List.{slice_get}
use Rattle.std.proofs.lemmas.Option.{slice_get_within}
use Rattle.nhgrp_slots.specs.Target.{target_cmp}
use Rattle.nhgrp_slots.proofs.TargetOrder.{target_total, target_exact}
use Rattle.nhop_index.proofs.SearchLemmas.{item_at, flip, hit, gap, past_step, past_later, past_here}
use Rattle.nhop_index.proofs.naming.index_from.Goals as goal

pub skip-preserved : goal.skip-preserved
skip-preserved g c =
    let at = item_at c.args.before.now c.skip.place c.index-before-place.result c.skip-test.true c.index-before-place.is in
    past_step target_cmp target_total c.args.before.now c.skip.place c.args.target.now c.index-before-place.result c.skip.invariant at
    (flip target_cmp target_total c.index-before-place.result.0 c.args.target.now Less (ap (λ e. target_cmp e.0 c.args.target.now) c.index-before-place.is ∙ sym c.in-Less.ensures))

pub returns-in-Equal-clause-index : goal.returns-in-Equal-clause-index
returns-in-Equal-clause-index g c =
    let at = item_at c.args.before.now c.skip.place c.index-before-place.result c.skip-test.true c.index-before-place.is in
    let again = item_at c.args.before.now c.skip.place c.index-before-place-in-Equal.result c.skip-test.true c.index-before-place-in-Equal.is in
    let one : Some c.index-before-place.result ≡ Some c.index-before-place-in-Equal.result = sym at ∙ again in
    let same : c.index-before-place.result ≡ c.index-before-place-in-Equal.result = cc in
    sym (hit target_cmp target_total target_exact c.args.before.now c.args.target.now c.skip.place c.index-before-place.result c.requires.sorted at (ap (λ e. target_cmp e.0 c.args.target.now) c.index-before-place.is ∙ sym c.in-Equal.ensures) ∙ ap (λ e. Some e.1) (same ∙ c.index-before-place-in-Equal.is))

pub returns-in-Equal-clause-past : goal.returns-in-Equal-clause-past
returns-in-Equal-clause-past g c = λ t later.
    let at = item_at c.args.before.now c.skip.place c.index-before-place.result c.skip-test.true c.index-before-place.is in
    past_here target_cmp target_total c.args.before.now c.skip.place c.args.target.now t c.index-before-place.result c.skip.invariant at (ap (λ e. target_cmp e.0 c.args.target.now) c.index-before-place.is ∙ sym c.in-Equal.ensures) later

pub returns-in-Greater-clause-index : goal.returns-in-Greater-clause-index
returns-in-Greater-clause-index g c =
    let at = item_at c.args.before.now c.skip.place c.index-before-place.result c.skip-test.true c.index-before-place.is in
    sym (gap target_cmp target_total c.args.before.now c.args.target.now c.skip.place c.requires.sorted c.skip.invariant
    (λ e here. let one : Some c.index-before-place.result ≡ Some e = sym at ∙ here in
    let same : c.index-before-place.result ≡ e = cc in
    ap (λ x. target_cmp x.0 c.args.target.now) (sym same ∙ c.index-before-place.is) ∙ sym c.in-Greater.ensures))

pub returns-in-Greater-clause-past : goal.returns-in-Greater-clause-past
returns-in-Greater-clause-past g c = λ t later. past_later target_cmp target_total c.args.before.now c.skip.place c.args.target.now t c.skip.invariant later

pub returns-clause-index : goal.returns-clause-index
returns-clause-index g c =
    sym (gap target_cmp target_total c.args.before.now c.args.target.now c.skip.place c.requires.sorted c.skip.invariant
    (λ e here. absurd (let h = slice_get_within c.args.before.now c.skip.place e here in let past : length c.args.before.now ≤ c.skip.place = c.skip-test.false in omega arith)))

pub returns-clause-past : goal.returns-clause-past
returns-clause-past g c = λ t later. past_later target_cmp target_total c.args.before.now c.skip.place c.args.target.now t c.skip.invariant later
