use Rattle.replay_run.proofs.PacketLemmas.{counts_given}
use Rattle.replay_run.proofs.laws.law_packets.Goals as goal

pub returns : goal.returns
returns c = counts_given
