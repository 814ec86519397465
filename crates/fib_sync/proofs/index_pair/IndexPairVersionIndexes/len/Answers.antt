use Rattle.fib_sync.proofs.IndexLemmas.{by_index_sorted}
use Rattle.fib_sync.proofs.index_pair.IndexPairVersionIndexes.len.Goals as goal

pub returns-clause-ascending : goal.returns-clause-ascending
returns-clause-ascending g c = by_index_sorted c.args.self.now.indexes.now.names
