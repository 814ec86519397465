-- The four texts in turn.
use Rattle.std.proofs.lemmas.Result.{IfOk-weaker}
use Rattle.threaded_replay.proofs.PrintLemmas.{four_on}
use Rattle.threaded_replay.proofs.ending.write_end.Goals as goal

pub returns : goal.returns
returns c =
    IfOk-weaker c.write_last-2.result _ _
    (λ x last. four_on _ _ _ _ _ _ _ _ _ c.in_ok-write_all_packets.ensures c.in_ok-write_all_packets-2.ensures c.in_ok-write_last.ensures last)
    c.write_last-2.ensures
