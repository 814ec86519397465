use Rattle.std.proofs.Common.{refl}
use Rattle.dxr_chunks.proofs.tests.ask.Goals as goal

pub returns : goal.returns
returns g c = λ rows stands. c.lookup.ensures.cost rows 19 stands refl
