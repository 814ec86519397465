use Rattle.std.proofs.Common.{◌≡◌, ◌++◌, map}
use Rattle.fib_pass.proofs.thread_tests.gather.Given as goal

abbrev pub invariant-loop-one : goal.invariant-loop-one
invariant-loop-one g l =
    l.passes.items ++ map (λ x. x.pass) l.one-iterator.rest.items ≡ map (λ x. x.pass) l.fn.looked.items
