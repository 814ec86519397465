use Rattle.std.proofs.Common.{sym}
use Rattle.nhgrp_slots.proofs.TargetOrder.{target_exact}
use Rattle.fib_sync.proofs.index_pair.are_same.Goals as goal

pub returns-in-Equal : goal.returns-in-Equal
returns-in-Equal g c = λ _. target_exact _ _ (sym c.in-Equal.ensures)
