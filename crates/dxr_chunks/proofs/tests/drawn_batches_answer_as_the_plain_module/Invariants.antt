use Rattle.dxr_chunks.proofs.tests.drawn_batches_answer_as_the_plain_module.Given as goal

abbrev pub ghosts-take_batches : goal.ghosts-take_batches
ghosts-take_batches g a = record { name = a.blank.name; parts = a.blank.parts }
