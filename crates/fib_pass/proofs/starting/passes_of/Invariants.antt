use Rattle.std.proofs.Common.{◌≡◌, ◌++◌, map}
use Rattle.std.specs.Prelude.{All}
use Rattle.std.specs.Arc.{arc_value}
use Rattle.fib_pass.specs.Views.{IsFresh, new_pass}
use Rattle.fib_pass.proofs.starting.passes_of.Given as goal

abbrev pub invariant-loop-seat : goal.invariant-loop-seat
invariant-loop-seat g l =
    (l.passes.items ++ map new_pass l.seat-iterator.rest.items ≡ map new_pass l.fn.seats.items)
    × All (IsFresh (arc_value l.plan)) l.seat-iterator.rest.items
