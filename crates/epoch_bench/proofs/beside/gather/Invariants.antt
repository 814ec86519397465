use Rattle.std.proofs.Common.{◌≡◌, ◌+◌, ◌*◌, ◌≤◌, IfOk, length, All}
use Rattle.epoch_bench.specs.Reads.{rightly, HasRead}
use Rattle.epoch_bench.proofs.beside.gather.Given as goal

abbrev pub invariant-loop-outcome : goal.invariant-loop-outcome
invariant-loop-outcome l =
    All (λ r. IfOk r (HasRead l.control.table l.rounds)) l.outcome-iterator.rest.items
    × All (λ s. s.table ≡ l.control.table) l.all.seats.items
    × (length l.all.seats.items + length l.outcome-iterator.rest.items ≡ length l.fn.reads.items)
    × (l.all.found ≡ rightly (length l.all.seats.items * l.rounds))
    × (length l.all.seats.items * l.rounds ≤ length l.all.seats.items * 1000000000)
