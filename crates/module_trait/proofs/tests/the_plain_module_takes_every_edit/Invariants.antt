use Rattle.module_trait.proofs.tests.the_plain_module_takes_every_edit.Given as goal

abbrev pub ghosts-take_every_edit : goal.ghosts-take_every_edit
ghosts-take_every_edit g a = record { name = a.blank.name; parts = a.blank.parts }
