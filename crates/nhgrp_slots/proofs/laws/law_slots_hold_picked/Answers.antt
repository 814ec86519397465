use Rattle.nhgrp_slots.proofs.SpreadLemmas.{slots_hold_picked}
use Rattle.nhgrp_slots.proofs.laws.law_slots_hold_picked.Goals as goal

pub returns : goal.returns
returns c = slots_hold_picked
