-- The rows that go and are left, and those that stay, are counted.
use Rattle.rib_store.proofs.SettledLemmas.{Flushing}
use Rattle.rib_store.proofs.links.unlink_flushed.Given as goal

abbrev pub invariant-loop-prefix : goal.invariant-loop-prefix
invariant-loop-prefix g l = Flushing g.row.LIVE l.prefix-iterator l.routes.entries l.links
