use Rattle.dxr_table.proofs.tests.dxr_answers_as_the_plain_module.Given as goal

abbrev pub ghosts-agree_on_routes : goal.ghosts-agree_on_routes
ghosts-agree_on_routes g a = record { name = a.blank.name; parts = a.blank.parts }
