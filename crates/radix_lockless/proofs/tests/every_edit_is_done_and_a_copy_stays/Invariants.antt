use Rattle.radix_lockless.proofs.tests.every_edit_is_done_and_a_copy_stays.Given as goal

abbrev pub ghosts-take_edits : goal.ghosts-take_edits
ghosts-take_edits g a = record { name = a.blank.name; parts = a.blank.parts }
