use Rattle.std.proofs.Common.{arith, get_or}
use Rattle.threaded_replay.specs.Legal.{Inet, Inet6}
use Rattle.threaded_replay.proofs.ResultLemmas.{one_of}
use Rattle.threaded_replay.proofs.MergeLemmas.{are_right, has_made, rising}
use Rattle.threaded_replay.proofs.merging.merge_right.Goals as goal

pub returns-clause-right : goal.returns-clause-right
returns-clause-right g c =
    let count = c.requires.count.0 in
    let some = c.requires.count.1 in
    let d = one_of c.args.dones.now (omega (arith, count, some)) in
    are_right _ _ _ _ _ (λ i. (get_or c.args.dones.now i d).gots.items) (λ i. (get_or c.args.dones.now i d).inet) (λ i. (get_or c.args.dones.now i d).inet6) some
    c.in_ok-gots.ensures.count (λ i lt. c.requires.done i d lt) (λ j h lt. c.in_ok-gots.ensures.each j h d lt)

pub returns-clause-rising : goal.returns-clause-rising
returns-clause-rising g c =
    let count = c.requires.count.0 in
    let some = c.requires.count.1 in
    let d = one_of c.args.dones.now (omega (arith, count, some)) in
    rising _ _ _ _ _ (λ i. (get_or c.args.dones.now i d).gots.items) (λ i. (get_or c.args.dones.now i d).inet) (λ i. (get_or c.args.dones.now i d).inet6) some
    c.in_ok-gots.ensures.count (λ i lt. c.requires.done i d lt) (λ j h lt. c.in_ok-gots.ensures.each j h d lt)

pub returns-clause-made : goal.returns-clause-made
returns-clause-made g c = λ i d lt.
    has_made _ _ _ _ _ (λ i. (get_or c.args.dones.now i d).gots.items) (λ i. (get_or c.args.dones.now i d).inet) (λ i. (get_or c.args.dones.now i d).inet6) c.requires.count.1
    c.in_ok-gots.ensures.count (λ i lt. c.requires.done i d lt) (λ j h lt. c.in_ok-gots.ensures.each j h d lt) i Inet lt

pub returns-clause-made6 : goal.returns-clause-made6
returns-clause-made6 g c = λ i d lt.
    has_made _ _ _ _ _ (λ i. (get_or c.args.dones.now i d).gots.items) (λ i. (get_or c.args.dones.now i d).inet) (λ i. (get_or c.args.dones.now i d).inet6) c.requires.count.1
    c.in_ok-gots.ensures.count (λ i lt. c.requires.done i d lt) (λ j h lt. c.in_ok-gots.ensures.each j h d lt) i Inet6 lt
