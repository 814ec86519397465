use Rattle.fib_sync.proofs.tests.growth_through_the_modules.Given as goal

abbrev pub ghosts-grow : goal.ghosts-grow
ghosts-grow g a = record { name = a.blank.name; parts = a.blank.parts }
