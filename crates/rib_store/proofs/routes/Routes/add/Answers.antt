use Rattle.std.proofs.Common.{◌∙◌, sym, arith, lit<}
use Rattle.nhgrp_slots.proofs.PathLemmas.{joins}
use Rattle.rib_store.proofs.routes.Routes.add.Goals as goal

pub with-requires : goal.with-requires
with-requires g c =
    (lit< tt, (lit< tt, joins _ _ c.len.ensures.spread.list (sym c.clashes.ensures ∙ c.if-clashes.false) (omega arith)))
