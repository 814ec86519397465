use Rattle.fib_sync.proofs.tests.each_module_in_turn.Given as goal

abbrev pub ghosts-take_each_module : goal.ghosts-take_each_module
ghosts-take_each_module g a = record { name = a.blank.name; parts = a.blank.parts }
