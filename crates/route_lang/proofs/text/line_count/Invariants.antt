-- The lines counted, with those of the rest, are all.
use Rattle.std.proofs.Common.{◌≡◌, ◌+◌, ◌≤◌, length}
use Rattle.route_lang.specs.Text.{lines_of}
use Rattle.route_lang.proofs.text.line_count.Given as goal

abbrev pub invariant-lines : goal.invariant-lines
invariant-lines l = record {
  all : l.count + length (lines_of l.rest) ≡ length (lines_of l.text);
  few : length (lines_of l.text) ≤ length l.text;
}

abbrev pub decreases-lines : goal.decreases-lines
decreases-lines l = length (lines_of l.rest)
