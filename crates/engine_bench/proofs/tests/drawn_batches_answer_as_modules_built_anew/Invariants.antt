use Rattle.engine_bench.proofs.tests.drawn_batches_answer_as_modules_built_anew.Given as goal

abbrev pub ghosts-take_batches : goal.ghosts-take_batches
ghosts-take_batches g a = record { name = a.blank.name; parts = a.blank.parts }
