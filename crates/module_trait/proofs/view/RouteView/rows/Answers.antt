use Rattle.std.proofs.Common.{◌≡◌, All, Some, subst}
use Rattle.module_trait.specs.Rows.{AreBlocks}
use Rattle.module_trait.specs.View.{row_at}
use Rattle.module_trait.proofs.view.RouteView.rows.Goals as goal

pub returns-in_err-push-clause-found : goal.returns-in_err-push-clause-found
returns-in_err-push-clause-found g c = subst (λ rows. All (λ r. row_at rows r.0 ≡ Some r.1) rows) c.self.view_is c.iter-prefix-items.ensures.found

pub returns-clause-blocks : goal.returns-clause-blocks
returns-clause-blocks g c = subst (AreBlocks g.row.W) c.self.view_is c.self.invariant

pub returns-clause-found : goal.returns-clause-found
returns-clause-found g c = subst (λ rows. All (λ r. row_at rows r.0 ≡ Some r.1) rows) c.self.view_is c.iter-prefix-items.ensures.found
