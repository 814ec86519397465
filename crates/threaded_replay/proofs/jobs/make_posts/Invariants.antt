use Rattle.std.proofs.Common.{◌≡◌, length}
use Rattle.threaded_replay.proofs.jobs.make_posts.Given as goal

abbrev pub invariant-loop-count : goal.invariant-loop-count
invariant-loop-count g l = length l.posts.items ≡ l._count
