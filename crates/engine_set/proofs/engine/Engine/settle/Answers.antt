use Rattle.std.proofs.Common.{subst}
use Rattle.engine_set.specs.Engine.{Stands}
use Rattle.engine_set.proofs.engine.Engine.settle.Goals as goal

pub returns-in-Dxr-clause-stands : goal.returns-in-Dxr-clause-stands
returns-in-Dxr-clause-stands g c = λ rows is. c.settle-in-Dxr.ensures.stands rows (subst (λ e. Stands e rows) c.in-Dxr.is is)
