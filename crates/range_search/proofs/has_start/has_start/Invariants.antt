use Rattle.range_search.proofs.has_start.has_start.Given as goal

abbrev pub ghosts-has_start_counted : goal.ghosts-has_start_counted
ghosts-has_start_counted a = record { name = a.blank.name; parts = a.blank.parts }
