-- The ages so far are counted on, and the others are as they were.
use Rattle.std.proofs.Common.{◌≡◌, ℕ, ◌<◌, ◌≤◌, length, get_or}
use Rattle.std.specs.Map.{values_of}
use Rattle.nhop_index.specs.Ages.{aged}
use Rattle.nhop_index.specs.Indexes.{is_used}
use Rattle.nhop_index.proofs.ages.renew.Given as goal

abbrev pub invariant-loop-i : goal.invariant-loop-i
invariant-loop-i g l = record {
  len : length l.ages.items ≡ length l.initial.ages.items;
  done : (j : ℕ) → j < l.i → get_or l.ages.items j 255 ≡ aged (is_used (values_of l.table) j) (get_or l.initial.ages.items j 255);
  left : (j : ℕ) → l.i ≤ j → get_or l.ages.items j 255 ≡ get_or l.initial.ages.items j 255;
}
