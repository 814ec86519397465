-- A cell that begins at the address is in what is left.
use Rattle.std.proofs.Common.{◌-◌}
use Rattle.range_search.proofs.SeekLemmas.{IsSought}
use Rattle.range_search.proofs.has_start.begins_at.Given as goal

abbrev pub invariant-loop-low : goal.invariant-loop-low
invariant-loop-low g l = IsSought l.cells l.value l.low l.high

abbrev pub decreases-loop-low : goal.decreases-loop-low
decreases-loop-low g l = l.high - l.low
