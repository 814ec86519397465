use Rattle.pass_bench.proofs.plain.time_plainly.Given as goal

abbrev pub ghosts-time_counted : goal.ghosts-time_counted
ghosts-time_counted g a = record { name = a.blank.name; parts = a.blank.parts }
