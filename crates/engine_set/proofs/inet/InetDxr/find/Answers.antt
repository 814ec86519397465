use Rattle.std.proofs.Common.{subst, sym, refl}
use Rattle.dxr_chunks.specs.Table.{IsChunksOf}
use Rattle.engine_set.proofs.inet.InetDxr.find.Goals as goal

pub returns-clause-cost : goal.returns-clause-cost
returns-clause-cost g c = λ rows is. c.find_at.ensures.cost rows (subst (IsChunksOf rows) (sym c.self.view_is) is)
