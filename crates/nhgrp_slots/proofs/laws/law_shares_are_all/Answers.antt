use Rattle.nhgrp_slots.proofs.SlotLemmas.{shares_are_all}
use Rattle.nhgrp_slots.proofs.laws.law_shares_are_all.Goals as goal

pub returns : goal.returns
returns c = shares_are_all
