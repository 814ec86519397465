use Rattle.nhgrp_slots.proofs.SpreadLemmas.{spreads_are_of_paths}
use Rattle.nhgrp_slots.proofs.laws.law_spreads_are_of_paths.Goals as goal

pub returns : goal.returns
returns c = spreads_are_of_paths
