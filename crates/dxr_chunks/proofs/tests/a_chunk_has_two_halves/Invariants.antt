use Rattle.dxr_chunks.proofs.tests.a_chunk_has_two_halves.Given as goal

abbrev pub ghosts-take_halves : goal.ghosts-take_halves
ghosts-take_halves g a = record { name = a.blank.name; parts = a.blank.parts }
