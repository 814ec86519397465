-- Each word is taken once.
use Rattle.std.proofs.Common.{length}
use Rattle.route_lang.specs.Text.{words_of}
use Rattle.route_lang.proofs.read_line.+behind_ignored.Given as goal

abbrev pub decreases-behind_ignored : goal.decreases-behind_ignored
decreases-behind_ignored l = length (words_of l.words.now)
