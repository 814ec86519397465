use Rattle.std.proofs.Common.{◌≡◌, ◌+◌, ◌≤◌, ◌++◌, length, vec_len}
use Rattle.std.specs.Prelude.{vec_capacity}
use Rattle.fib_pass.specs.Closing.{AreOf, joined}
use Rattle.fib_pass.proofs.closing.put_together.Given as goal

abbrev pub invariant-loop-seat : goal.invariant-loop-seat
invariant-loop-seat g l = record {
  passes : l.passes.items ++ joined l.seat-iterator.rest.items l.rests.rest.items ≡ joined l.fn.seats.items l.fn.beside.items;
  fit : AreOf l.seat-iterator.rest.items l.rests.rest.items;
  room : vec_len l.passes + length l.seat-iterator.rest.items ≤ vec_capacity l.passes;
}
