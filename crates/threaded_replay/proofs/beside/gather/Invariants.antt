-- Those gathered and those that are left are all.
use Rattle.std.proofs.Common.{◌≡◌, ◌++◌, Ok}
use Rattle.std.specs.Prelude.{map}
use Rattle.threaded_replay.proofs.beside.gather.Given as goal

abbrev pub invariant-loop-result : goal.invariant-loop-result
invariant-loop-result g l = map (λ d. Ok d) l.dones.items ++ l.result-iterator.rest.items ≡ l.fn.results.items
