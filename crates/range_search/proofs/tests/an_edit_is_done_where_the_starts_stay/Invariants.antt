use Rattle.range_search.proofs.tests.an_edit_is_done_where_the_starts_stay.Given as goal

abbrev pub ghosts-take_edits : goal.ghosts-take_edits
ghosts-take_edits g a = record { name = a.blank.name; parts = a.blank.parts }
