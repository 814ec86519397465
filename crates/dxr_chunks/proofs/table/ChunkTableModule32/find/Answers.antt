use Rattle.std.proofs.Common.{arith}
use Rattle.dxr_chunks.proofs.table.ChunkTableModule32.find.Goals as goal

pub returns-clause-cost : goal.returns-clause-cost
returns-clause-cost g c = λ rows n stands bound. (let cost = c.find_at.ensures.cost rows stands in omega (arith, cost, bound))
