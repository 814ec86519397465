use Rattle.std.proofs.Common.{lit<, refl}
use Rattle.radix_lockless.proofs.PlanLemmas.{entry_there, index_done}
use Rattle.radix_lockless.proofs.trie.set_index.Goals as goal

pub set-requires : goal.set-requires
set-requires g c = (lit< tt, (lit< tt, entry_there c.args.trie.now c.args.entry.now.node.prefix c.args.spot.now c.args.entry.now c.requires.spot c.requires.here))

pub returns-clause-change : goal.returns-clause-change
returns-clause-change g c = index_done c.args.trie.now (record c.args.trie.now { nodes = c.set.new.self }) c.args.spot.now c.args.entry.now c.args.index c.requires.spot c.requires.here c.requires.justified c.set.ensures.updates refl c.set.ensures.spare
