use Rattle.fib_pass.proofs.tests.five_changes_have_a_packet_each.Given as goal

abbrev pub ghosts-look_at_five_each : goal.ghosts-look_at_five_each
ghosts-look_at_five_each g a = record { name = a.blank.name; parts = a.blank.parts }
