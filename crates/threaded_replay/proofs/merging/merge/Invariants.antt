-- The answers before the place are put in.
use Rattle.std.proofs.Common.{◌≡◌, ◌%◌, ◌/◌, ◌<◌, ℕ, length}
use Rattle.std.specs.Prelude.{slice_index_or}
use Rattle.threaded_replay.proofs.merging.merge.Given as goal

abbrev pub invariant-loop-j : goal.invariant-loop-j
invariant-loop-j g l = record {
  count : length l.gots.items ≡ l.j;
  each : (j : ℕ) (g : _) (d : _) → j < length l.gots.items → slice_index_or l.gots.items j g ≡ slice_index_or (slice_index_or l.dones (j % l.workers) d).gots.items (j / l.workers) g;
}
