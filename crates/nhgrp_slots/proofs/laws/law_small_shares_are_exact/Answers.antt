use Rattle.nhgrp_slots.proofs.SlotLemmas.{small_shares_are_exact}
use Rattle.nhgrp_slots.proofs.laws.law_small_shares_are_exact.Goals as goal

pub returns : goal.returns
returns c = small_shares_are_exact
