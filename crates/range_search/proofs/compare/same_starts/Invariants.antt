use Rattle.range_search.proofs.compare.same_starts.Given as goal

abbrev pub ghosts-same_starts_counted : goal.ghosts-same_starts_counted
ghosts-same_starts_counted a = record { name = a.blank.name; parts = a.blank.parts }
