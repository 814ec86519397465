-- The passes that are left are those behind as many as there are jobs.
use Rattle.std.proofs.Common.{◌≡◌, ◌<◌, ◌+◌, ℕ, drop, length}
use Rattle.std.specs.Prelude.{slice_index_or}
use Rattle.threaded_replay.specs.Tally.{IsNew}
use Rattle.threaded_replay.proofs.jobs.make_jobs.Given as goal

abbrev pub invariant-loop-inet : goal.invariant-loop-inet
invariant-loop-inet g l = record {
  left : l.inet-iterator.rest.items ≡ drop (length l.jobs.items) l.fn.passes.items;
  left6 : l.rest6.rest.items ≡ drop (length l.jobs.items) l.fn.passes6.items;
  count : length l.jobs.items + length l.inet-iterator.rest.items ≡ length l.fn.passes.items;
  jobs : (i : ℕ) (d : _) → i < length l.jobs.items → ((slice_index_or l.jobs.items i d).number ≡ i) × IsNew i (slice_index_or l.jobs.items i d).inet × IsNew i (slice_index_or l.jobs.items i d).inet6;
}
