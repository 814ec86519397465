use Rattle.dxr_table.proofs.tests.a_chunk_may_have_a_fragment_for_each_address.Given as goal

abbrev pub ghosts-ask_full_chunk : goal.ghosts-ask_full_chunk
ghosts-ask_full_chunk g a = record { name = a.blank.name; parts = a.blank.parts }
