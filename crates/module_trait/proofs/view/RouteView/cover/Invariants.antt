-- Each shorter cover is below this length.
use Rattle.std.proofs.Common.{◌<◌}
use Rattle.prefix_width.specs.Prefix.{Block}
use Rattle.module_trait.specs.View.{IsShorterCover}
use Rattle.module_trait.proofs.view.RouteView.cover.Given as goal

abbrev pub invariant-loop-len : goal.invariant-loop-len
invariant-loop-len g l = (q : Block) → IsShorterCover g.row.W l.self l.prefix q → q.len < l.len
