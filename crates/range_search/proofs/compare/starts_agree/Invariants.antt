-- The starts so far are the same.
use Rattle.std.proofs.Common.{◌≡◌, take}
use Rattle.std.specs.Map.{keys_of}
use Rattle.range_search.proofs.compare.starts_agree.Given as goal

abbrev pub invariant-loop-i : goal.invariant-loop-i
invariant-loop-i g l = keys_of (take l.i l.cells) ≡ keys_of (take l.i l.others)
