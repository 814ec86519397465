use Rattle.nhgrp_slots.proofs.LayoutLemmas.{layout_is_of_paths}
use Rattle.nhgrp_slots.proofs.laws.law_layout_picks_as_slots.Goals as goal

pub returns : goal.returns
returns c = layout_is_of_paths
