use Rattle.std.proofs.Common.{subst, sym}
use Rattle.dxr_chunks.specs.Table.{IsChunksOf}
use Rattle.engine_set.proofs.inet.InetDxr.copy.Goals as goal

pub returns-clause-stands : goal.returns-clause-stands
returns-clause-stands g c = λ rows is. c.in_ok-copy.ensures.stands rows (subst (IsChunksOf rows) (sym c.self.view_is) is)
