-- A text has no more lines than bytes.
use Rattle.std.proofs.Common.{arith}
use Rattle.route_lang.proofs.TextLemmas.{lines_few}
use Rattle.route_lang.proofs.text.line_count.Goals as goal

pub lines-init : goal.lines-init
lines-init c = record { all = omega arith; few = lines_few c.args.text.now }
