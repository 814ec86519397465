use Rattle.radix_lockless.specs.Form.{linked_of}
use Rattle.radix_lockless.specs.Table.{working}
use Rattle.radix_lockless.proofs.TableLemmas.{table_of}
use Rattle.radix_lockless.proofs.table.RadixTableModule.load.Goals as goal

pub invariant_of-self : goal.invariant_of-self
invariant_of-self g c = rw c.replace.ensures.replaced (c.args.rows.now, c.in_ok-trie.ensures)

pub returns-clause-ok : goal.returns-clause-ok
returns-clause-ok g c = rw c.replace.ensures.replaced (table_of (working c.in_ok-trie.trie) c.args.rows.now c.in_ok-trie.ensures c.requires.indexes)
