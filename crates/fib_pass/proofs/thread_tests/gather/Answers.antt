use Rattle.std.proofs.Common.{rules, ◌≡◌, ◌∙◌, ◌++◌, length, sym, ap, subst, map, append-nil, All}
use Rattle.std.proofs.lemmas.List.{nil_from_length}
use Rattle.std.proofs.lemmas.List.Elements.{All-map}
use Rattle.fib_pass.proofs.thread_tests.gather.Goals as goal

pub returns : goal.returns
returns c after table all =
    let none : length after.loop-one.one-iterator.rest.items ≡ 0 = search (rules, after.in-None.ensures.steps) in
    let empty = nil_from_length after.loop-one.one-iterator.rest.items none in
    let whole : after.loop-one.passes.items ≡ map (λ x. x.pass) after.args.looked.items = sym (append-nil after.loop-one.passes.items) ∙ (ap (λ r. after.loop-one.passes.items ++ map (λ x. x.pass) r) (sym empty) ∙ after.loop-one.invariant) in
    subst (All (λ p. p.seat.table ≡ table)) (sym whole) (All-map (λ p. p.seat.table ≡ table) (λ x. x.pass) after.args.looked.items all)
