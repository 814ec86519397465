use Rattle.std.proofs.Common.{◌≡◌, ◌≤◌, length, vec_len}
use Rattle.std.specs.Prelude.{slice_index_or, vec_capacity}
use Rattle.epoch_core.specs.Counts.{rising_counts}
use Rattle.epoch_core.proofs.words.gather.Given as goal

abbrev pub invariant-loop-number : goal.invariant-loop-number
invariant-loop-number l =
    (l.list.items ≡ rising_counts (λ p. slice_index_or l.counts p 0) l.number) × (vec_len l.list ≤ l.number) × (length l.counts ≤ vec_capacity l.list)
