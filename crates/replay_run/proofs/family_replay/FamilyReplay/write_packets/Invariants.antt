-- What is written, with the lines of the packets that are left, is all.
use Rattle.std.proofs.Common.{◌≡◌, ◌++◌}
use Rattle.std.specs.List.{flat_map}
use Rattle.replay_run.specs.Line.{packets_text}
use Rattle.replay_run.proofs.family_replay.FamilyReplay.write_packets.Given as goal

abbrev pub invariant-loop-nexthop : goal.invariant-loop-nexthop
invariant-loop-nexthop g l =
    l.out.items ++ flat_map (packets_text g.row.W) l.nexthop-iterator ≡ l.fn.out.items ++ flat_map (packets_text g.row.W) l.self.packets
