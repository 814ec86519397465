-- Both families' controls and publishers are abreast.
use Rattle.replay_run.specs.Limits.{banks, targets_max}
use Rattle.threaded_replay.specs.Producing.{IsAbreast}
use Rattle.threaded_replay.proofs.steer.hand_out.Given as goal

abbrev pub invariant-loop-j : goal.invariant-loop-j
invariant-loop-j g l = record {
  inet : IsAbreast banks targets_max g.A.Naming.table g.A.Naming.plan g.A.Naming.readers l.producers.inet.control l.producers.inet.publisher;
  inet6 : IsAbreast banks targets_max g.B.Naming.table g.B.Naming.plan g.B.Naming.readers l.producers.inet6.control l.producers.inet6.publisher;
}
