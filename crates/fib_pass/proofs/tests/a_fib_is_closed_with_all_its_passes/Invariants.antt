use Rattle.fib_pass.proofs.tests.a_fib_is_closed_with_all_its_passes.Given as goal

abbrev pub ghosts-close_twice : goal.ghosts-close_twice
ghosts-close_twice g a = record { name = a.blank.name; parts = a.blank.parts }
