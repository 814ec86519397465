use Rattle.radix_lockless.proofs.tests.nested_prefixes_without_the_middle_one.Given as goal

abbrev pub ghosts-take_the_middle_out : goal.ghosts-take_the_middle_out
ghosts-take_the_middle_out g a = record { name = a.blank.name; parts = a.blank.parts }
