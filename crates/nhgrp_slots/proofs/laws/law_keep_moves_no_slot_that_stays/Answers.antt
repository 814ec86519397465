use Rattle.nhgrp_slots.proofs.LayoutLemmas.{keeps_what_stays}
use Rattle.nhgrp_slots.proofs.laws.law_keep_moves_no_slot_that_stays.Goals as goal

pub returns : goal.returns
returns c = keeps_what_stays
