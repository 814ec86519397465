use Rattle.std.proofs.Common.{◌≡◌, ◌+◌}
use Rattle.epoch_bench.proofs.hits.place_turns.Given as goal

abbrev pub invariant-loop-placed : goal.invariant-loop-placed
invariant-loop-placed l = l.control.own.version ≡ l.initial.control.own.version + l._placed
