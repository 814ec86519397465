-- The paths so far are unlinked, and what is left stands in the counts.
use Rattle.std.proofs.Common.{drop}
use Rattle.rib_store.proofs.LinkingLemmas.{Unlinking}
use Rattle.rib_store.proofs.links.unlink_all.Given as goal

abbrev pub invariant-loop-path : goal.invariant-loop-path
invariant-loop-path g l = Unlinking l.initial.nhops l.nhops (drop l.path-index l.paths) l.paths
