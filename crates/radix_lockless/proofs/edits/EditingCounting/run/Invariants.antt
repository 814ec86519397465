-- The edits from this place on are made.
use Rattle.std.proofs.Common.{◌≡◌, ◌*◌, ◌≤◌, length}
use Rattle.radix_lockless.proofs.TableLemmas.{IsEditedFrom}
use Rattle.radix_lockless.proofs.edits.EditingCounting.run.Given as goal

abbrev pub invariant-loop-i : goal.invariant-loop-i
invariant-loop-i g l = record {
  made : IsEditedFrom l.fn.self.trie l.self.trie l.fn.self.edits.now l.i;
  same : l.self.edits ≡ l.fn.self.edits;
  room : 2 * l.i ≤ l.self.trie.nodes.spare;
  most : l.self.trie.nodes.spare ≤ l.fn.self.trie.nodes.spare;
  within : l.i ≤ length l.fn.self.edits.now;
}
