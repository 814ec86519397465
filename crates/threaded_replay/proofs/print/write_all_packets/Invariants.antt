-- What is written, with the lines of the packets that are left, is all.
use Rattle.std.proofs.Common.{◌≡◌, ◌++◌, drop}
use Rattle.std.specs.List.{flat_map}
use Rattle.replay_run.specs.Line.{packets_text}
use Rattle.threaded_replay.proofs.print.write_all_packets.Given as goal

abbrev pub invariant-loop-packets : goal.invariant-loop-packets
invariant-loop-packets g l =
    l.out.items ++ flat_map (λ p. packets_text g.row.W (p.nexthop, p.count)) (drop l.packets-index l.packets-items)
    ≡ l.fn.out.items ++ flat_map (λ p. packets_text g.row.W (p.nexthop, p.count)) l.totals.packets
