use Rattle.std.proofs.Common.{subst}
use Rattle.module_trait.specs.Rows.{AreBlocks}
use Rattle.module_trait.proofs.view.RouteView.len.Goals as goal

pub returns-clause-blocks : goal.returns-clause-blocks
returns-clause-blocks g c = subst (AreBlocks g.row.W) c.self.view_is c.self.invariant
