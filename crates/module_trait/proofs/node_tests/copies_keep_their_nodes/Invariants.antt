use Rattle.module_trait.proofs.node_tests.copies_keep_their_nodes.Given as goal

abbrev pub ghosts-keep_their_nodes : goal.ghosts-keep_their_nodes
ghosts-keep_their_nodes g a = record { name = a.blank.name; parts = a.blank.parts }
