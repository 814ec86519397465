-- The rows so far are added.
use Rattle.std.proofs.Common.{◌≡◌, ◌+◌, ◌*◌, ◌≤◌, length, take}
use Rattle.module_trait.specs.Nodes.{node_at}
use Rattle.radix_lockless.specs.Trie.{StandsFor}
use Rattle.radix_lockless.proofs.fill.FillingCounting.run.Given as goal

abbrev pub invariant-loop-i : goal.invariant-loop-i
invariant-loop-i g l = record {
  stands : StandsFor (node_at l.self.trie.nodes.slots) l.self.trie.root (take l.i l.fn.self.rows.now);
  same : l.self.rows ≡ l.fn.self.rows;
  room : 2 * length l.fn.self.rows.now ≤ l.self.trie.nodes.spare + 2 * l.i;
}
