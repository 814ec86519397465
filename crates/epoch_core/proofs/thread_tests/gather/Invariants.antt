use Rattle.std.proofs.Common.{◌≡◌, ◌++◌, map}
use Rattle.epoch_core.proofs.thread_tests.gather.Given as goal

abbrev pub invariant-loop-one : goal.invariant-loop-one
invariant-loop-one g l =
    l.seats.items ++ map (λ x. x.seat) l.one-iterator.rest.items ≡ map (λ x. x.seat) l.fn.reads.items
