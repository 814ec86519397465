use Rattle.std.proofs.Common.{◌≡◌, ◌≤◌, get_or, take, length, vec_len}
use Rattle.std.specs.Prelude.{vec_capacity}
use Rattle.fib_pass.specs.Totals.{counted_hops, packets_of}
use Rattle.fib_pass.proofs.counting.packets_in.Given as goal

abbrev pub invariant-loop-next : goal.invariant-loop-next
invariant-loop-next g l =
    (l.packets.items ≡ packets_of (counted_hops (λ p. get_or l.places p 0) (take l.next l.order)))
    × (vec_len l.packets ≤ l.next) × (length l.order ≤ vec_capacity l.packets)
