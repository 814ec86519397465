use Rattle.fib_sync.proofs.tests.a_route_that_is_changed_again_and_again.Given as goal

abbrev pub ghosts-change_one_route : goal.ghosts-change_one_route
ghosts-change_one_route g a = record { name = a.blank.name; parts = a.blank.parts }
