-- What the pieces so far have.
use Rattle.std.proofs.Common.{◌≡◌}
use Rattle.dxr_chunks.specs.Pieces.{AreWhole, all_of}
use Rattle.dxr_chunks.proofs.pieces.gathered.Given as goal

abbrev pub invariant-loop-piece : goal.invariant-loop-piece
invariant-loop-piece l = record {
  whole : AreWhole l.yielded;
  all : l.news.items ≡ all_of l.yielded;
}
