use Rattle.radix_lockless.proofs.tests.drawn_edits_answer_as_the_plain_module.Given as goal

abbrev pub ghosts-draw_on_both_widths : goal.ghosts-draw_on_both_widths
ghosts-draw_on_both_widths g a = record { name = a.blank.name; parts = a.blank.parts }
