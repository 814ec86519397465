use Rattle.radix_lockless.proofs.tests.a_default_route_and_one_address.Given as goal

abbrev pub ghosts-ask_at_128_bits : goal.ghosts-ask_at_128_bits
ghosts-ask_at_128_bits g a = record { name = a.blank.name; parts = a.blank.parts }
