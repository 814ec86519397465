use Rattle.std.proofs.Common.{arith, ◌∙◌, sym, lit<}
use Rattle.nhgrp_slots.proofs.PathLemmas.{joins}
use Rattle.nhgrp_slots.proofs.tests.joined.Goals as goal

pub with-requires : goal.with-requires
with-requires c = (lit< tt, (lit< tt, joins _ _ c.len.ensures.spread.list (sym c.clashes.ensures ∙ c.if-clashes.false) (omega arith)))
