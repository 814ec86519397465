use Rattle.fib_pass.proofs.thread_tests.look_up_apart.Given as goal

abbrev pub ghosts-look_up_with : goal.ghosts-look_up_with
ghosts-look_up_with g a = record { name = a.blank.name; parts = a.blank.parts }
