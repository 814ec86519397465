use Rattle.engine_set.proofs.tests.nested_prefixes_and_a_group.Given as goal

abbrev pub ghosts-check_both_widths : goal.ghosts-check_both_widths
ghosts-check_both_widths g a = record { name = a.blank.name; parts = a.blank.parts }
