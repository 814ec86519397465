-- What is written behind the lines ends the output.
use Rattle.replay_run.proofs.ReplayLemmas.{at_last}
use Rattle.replay_run.proofs.serial_replay.Replay.finish.Goals as goal

pub returns : goal.returns
returns g c = λ script h text. at_last script c.args.self _ _ _ _ h text c.in_ok-write_packets.ensures c.in_ok-write_packets-2.ensures c.in_ok-write_last.ensures
