-- The node above has fewer bits left behind its prefix each time.
use Rattle.module_trait.specs.Nodes.{node_at}
use Rattle.radix_lockless.proofs.SpotLemmas.{IsDescent, bits_left}
use Rattle.radix_lockless.proofs.trie.spot_of.Given as goal

abbrev pub invariant-loop-at : goal.invariant-loop-at
invariant-loop-at g l = IsDescent (node_at l.nodes.slots) l.fn.root l.prefix l.grand l.parent l.at

abbrev pub decreases-loop-at : goal.decreases-loop-at
decreases-loop-at g l = bits_left l.parent
