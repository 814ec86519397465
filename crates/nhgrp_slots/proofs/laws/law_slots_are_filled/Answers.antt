use Rattle.nhgrp_slots.proofs.SlotLemmas.{slots_are_filled}
use Rattle.nhgrp_slots.proofs.laws.law_slots_are_filled.Goals as goal

pub returns : goal.returns
returns c = λ ps indexes have same. slots_are_filled ps indexes have same
