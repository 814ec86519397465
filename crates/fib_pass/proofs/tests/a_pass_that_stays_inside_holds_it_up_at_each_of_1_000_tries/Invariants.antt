use Rattle.fib_pass.proofs.tests.a_pass_that_stays_inside_holds_it_up_at_each_of_1_000_tries.Given as goal

abbrev pub ghosts-hold_up_each : goal.ghosts-hold_up_each
ghosts-hold_up_each g a = record { name = a.blank.name; parts = a.blank.parts }
