use Rattle.std.proofs.Common.{◌≡◌, ◌+◌, ◌≤◌, ◌++◌, length, map, vec_len}
use Rattle.std.specs.Prelude.{vec_capacity}
use Rattle.fib_pass.specs.Closing.{AreOf, joined}
use Rattle.fib_pass.proofs.closing.take_apart.Given as goal

abbrev pub invariant-loop-pass : goal.invariant-loop-pass
invariant-loop-pass g l = record {
  seats : l.seats.items ++ map (λ p. p.seat) l.pass-iterator.rest.items ≡ map (λ p. p.seat) l.fn.passes.items;
  passes : joined l.seats.items l.beside.items ++ l.pass-iterator.rest.items ≡ l.fn.passes.items;
  fit : AreOf l.seats.items l.beside.items;
  seats_room : vec_len l.seats + length l.pass-iterator.rest.items ≤ vec_capacity l.seats;
  beside_room : vec_len l.beside + length l.pass-iterator.rest.items ≤ vec_capacity l.beside;
}
