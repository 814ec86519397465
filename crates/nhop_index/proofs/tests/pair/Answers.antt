use Rattle.std.proofs.Common.{arith, ◌∙◌, sym}
use Rattle.nhgrp_slots.proofs.PathLemmas.{joins}
use Rattle.nhop_index.proofs.tests.pair.Goals as goal

pub with-requires : goal.with-requires
with-requires c = (omega arith, (omega arith, joins _ _ c.len.ensures.spread.list (sym c.clashes.ensures ∙ c.if-clashes.false) (omega (arith, c.len.ensures.count, c.if-len-ge64.false))))
