-- All indexes that were passed are young.
use Rattle.std.proofs.Common.{◌≡◌, ℕ, ◌+◌, ◌-◌, ◌<◌, ◌≤◌, max, length, nat_lt, true}
use Rattle.nhop_index.specs.Ages.{age_of}
use Rattle.nhop_index.proofs.ages.take_unused.Given as goal

abbrev pub invariant-walk : goal.invariant-walk
invariant-walk g l = record {
  up : l.fn.next ≤ l.index;
  bound : l.index ≤ max l.fn.next (length l.ages);
  young : (j : ℕ) → l.fn.next ≤ j → j < l.index → nat_lt (age_of l.ages j) (g.row.K - 1) ≡ true;
}

abbrev pub decreases-walk : goal.decreases-walk
decreases-walk g l = length l.ages - l.index
