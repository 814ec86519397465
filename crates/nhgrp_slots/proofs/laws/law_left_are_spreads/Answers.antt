use Rattle.nhgrp_slots.proofs.SpreadLemmas.{left_are_spreads}
use Rattle.nhgrp_slots.proofs.laws.law_left_are_spreads.Goals as goal

pub returns : goal.returns
returns c = left_are_spreads
