use Rattle.engine_set.proofs.tests.an_update_with_threads_answers_as_one_without.Given as goal

abbrev pub ghosts-update_in_pieces : goal.ghosts-update_in_pieces
ghosts-update_in_pieces g a = record { name = a.blank.name; parts = a.blank.parts }
