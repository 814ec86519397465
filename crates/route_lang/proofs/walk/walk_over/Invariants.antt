-- The walk over what is left, after what was met, is the whole walk.
use Rattle.std.proofs.Common.{◌≡◌, length}
use Rattle.route_lang.specs.Text.{words_of}
use Rattle.route_lang.specs.Reader.Walk.{met_by, nothing_met, walk_from, InRange}
use Rattle.route_lang.proofs.walk.walk_over.Given as goal

abbrev pub invariant-words : goal.invariant-words
invariant-words l = record {
  range : InRange l.met;
  value : walk_from l.verb (met_by l.met) (words_of l.left) ≡ walk_from l.verb nothing_met (words_of l.words);
}

abbrev pub decreases-words : goal.decreases-words
decreases-words l = length (words_of l.left)
