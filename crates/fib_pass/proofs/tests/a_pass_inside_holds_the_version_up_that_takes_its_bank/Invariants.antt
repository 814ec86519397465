use Rattle.fib_pass.proofs.tests.a_pass_inside_holds_the_version_up_that_takes_its_bank.Given as goal

abbrev pub ghosts-hold_up_each : goal.ghosts-hold_up_each
ghosts-hold_up_each g a = record { name = a.blank.name; parts = a.blank.parts }
