use Rattle.std.proofs.Common.{rules, ◌≡◌, ◌∙◌, ◌++◌, length, sym, ap, subst, map, append-nil, All}
use Rattle.std.proofs.lemmas.List.{nil_from_length}
use Rattle.std.proofs.lemmas.List.Elements.{All-map}
use Rattle.epoch_core.proofs.thread_tests.gather.Goals as goal

pub returns : goal.returns
returns g after table all =
    let none : length after.loop-one.one-iterator.rest.items ≡ 0 = search (rules, after.in-None.ensures.steps) in
    let empty = nil_from_length after.loop-one.one-iterator.rest.items none in
    let whole : after.loop-one.seats.items ≡ map (λ x. x.seat) after.args.reads.items = sym (append-nil after.loop-one.seats.items) ∙ (ap (λ r. after.loop-one.seats.items ++ map (λ x. x.seat) r) (sym empty) ∙ after.loop-one.invariant) in
    subst (All (λ s. s.table ≡ table)) (sym whole) (All-map (λ s. s.table ≡ table) (λ x. x.seat) after.args.reads.items all)
