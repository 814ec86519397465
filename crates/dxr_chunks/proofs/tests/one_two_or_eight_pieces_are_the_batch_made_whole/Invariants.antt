use Rattle.dxr_chunks.proofs.tests.one_two_or_eight_pieces_are_the_batch_made_whole.Given as goal

abbrev pub ghosts-take_pieces : goal.ghosts-take_pieces
ghosts-take_pieces g a = record { name = a.blank.name; parts = a.blank.parts }
