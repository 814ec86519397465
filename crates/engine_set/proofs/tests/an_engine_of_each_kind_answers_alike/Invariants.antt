use Rattle.engine_set.proofs.tests.an_engine_of_each_kind_answers_alike.Given as goal

abbrev pub ghosts-swap_engines : goal.ghosts-swap_engines
ghosts-swap_engines g a = record { name = a.blank.name; parts = a.blank.parts }
