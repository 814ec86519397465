-- The passes that are taken out, and those that are left, are all.
use Rattle.std.proofs.Common.{◌≡◌, ◌++◌}
use Rattle.std.specs.Prelude.{map, All}
use Rattle.threaded_replay.specs.Tally.{tally_of}
use Rattle.threaded_replay.proofs.merging.untie.Given as goal

abbrev pub invariant-loop-done : goal.invariant-loop-done
invariant-loop-done g l = record {
  inet : map (tally_of g.A.Naming.plan) l.inet.items ++ map (λ d. d.inet) l.done-iterator.rest.items ≡ map (λ d. d.inet) l.fn.dones.items;
  inet6 : map (tally_of g.B.Naming.plan) l.inet6.items ++ map (λ d. d.inet6) l.done-iterator.rest.items ≡ map (λ d. d.inet6) l.fn.dones.items;
  tied : All (λ q. (q.seat.table ≡ g.A.Naming.table) × (q.seat.key ≡ g.A.Naming.plan)) l.inet.items;
  tied6 : All (λ q. (q.seat.table ≡ g.B.Naming.table) × (q.seat.key ≡ g.B.Naming.plan)) l.inet6.items;
}
