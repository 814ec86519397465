use Rattle.fib_soak.proofs.hold.hold_version.Given as goal

abbrev pub ghosts-hold_counted : goal.ghosts-hold_counted
ghosts-hold_counted g a = record { name = a.blank.name; parts = a.blank.parts }
