use Rattle.std.proofs.Common.{ap, subst}
use Rattle.std.specs.Prelude.{IfOk}
use Rattle.rib_store.specs.Table.{Profiled, Table}
use Rattle.rib_store.specs.Targets.{LeadToLive}
use Rattle.rib_store.proofs.rib.Rib.targets.Goals as goal

pub returns-clause-rows : goal.returns-clause-rows
returns-clause-rows g c = subst (λ (rows : Table). IfOk c.targets.result (λ v. LeadToLive v.items rows)) (ap (λ (r : Profiled). r.rows) c.self.view_is) c.targets.ensures.rows
