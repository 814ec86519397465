use Rattle.range_search.proofs.tests.ranges_answer_as_the_plain_module.Given as goal

abbrev pub ghosts-agree_on_both_widths : goal.ghosts-agree_on_both_widths
ghosts-agree_on_both_widths g a = record { name = a.blank.name; parts = a.blank.parts }
