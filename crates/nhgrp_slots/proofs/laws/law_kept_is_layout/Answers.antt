use Rattle.nhgrp_slots.proofs.LayoutLemmas.{kept_is_layout}
use Rattle.nhgrp_slots.proofs.laws.law_kept_is_layout.Goals as goal

pub returns : goal.returns
returns c = kept_is_layout
