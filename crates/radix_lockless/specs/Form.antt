-- The two forms of a table's nodes, as one map from key to node.
use Rattle.std.proofs.Common.{inl, inr}
use Rattle.std.specs.Prelude.{ℕ}
use Rattle.radix_lockless.specs.declared.table.Form.{Form}
use Rattle.radix_lockless.specs.declared.table.Form.TheVariants.{Working, Frozen}
use Rattle.radix_lockless.specs.Table.{Linked}

abbrev pub linked_of : {W : ℕ} → Form W → Linked W
linked_of (Working trie) = record { nodes = inl trie.nodes.slots; root = trie.root; unsettled = trie.nodes.unsettled; made = 0 }
linked_of (Frozen trie) = record { nodes = inr trie.nodes.pages; root = trie.root; unsettled = 0; made = trie.nodes.made }

-- how many more nodes there is room for
abbrev pub spare_of : {W : ℕ} → Form W → ℕ
spare_of (Working trie) = trie.nodes.spare
spare_of (Frozen trie) = 0
