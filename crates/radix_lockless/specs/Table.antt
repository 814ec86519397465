-- What contracts see of a table: its nodes by key, in one of two forms, and its root.
use Rattle.std.specs.Prelude.{◌≡◌, ℕ, ◌+◌, ◌*◌, ◌≤◌, ◌⊎◌, List, [], ◌∷◌, Option, length}
use Rattle.std.proofs.Common.{inl, inr}
use Rattle.prefix_width.specs.Prefix.{Block}
use Rattle.module_trait.specs.Edit.{IndexChange}
use Rattle.module_trait.specs.Nodes.{node_at, paged_at}
use Rattle.module_trait.specs.Rows.{AreBlocks, HaveIndexes}
use Rattle.module_trait.specs.View.{with_row}
use Rattle.radix_lockless.specs.declared.node.Node.{Node}
use Rattle.radix_lockless.specs.declared.store.TheConstants.{PAGE}
use Rattle.radix_lockless.specs.declared.trie.Trie.{Trie}
use Rattle.radix_lockless.specs.Trie.{DifferAtMost, StandsFor}

-- the slots of a store that is written to, or the pages of a frozen copy, and the key of the root; how many pages of a store
-- were written to since it was settled, and how many of a copy were made for it
pub record Linked (W : ℕ) : Type 0 where
  pub nodes : List (Option (Node W)) ⊎ List (List (Option (Node W)))
  pub root : Option ℕ
  pub unsettled : ℕ
  pub made : ℕ

-- the rows with edits made, the last one first
abbrev pub with_edits : List IndexChange → List (Block × ℕ) → List (Block × ℕ)
with_edits [] rows = rows
with_edits (edit ∷ edits) rows = with_row (with_edits edits rows) edit.prefix edit.after

module _ {W : ℕ} where
  abbrev pub nodes_in : List (Option (Node W)) ⊎ List (List (Option (Node W))) → ℕ → Option (Node W)
  nodes_in (inl slots) = node_at slots
  nodes_in (inr pages) = paged_at PAGE pages

  -- the node at each key
  abbrev pub nodes_of : Linked W → ℕ → Option (Node W)
  nodes_of table = nodes_in table.nodes

  -- its nodes are a trie
  abbrev pub IsSound : Linked W → Type 0
  IsSound table = (rows : List (Block × ℕ)) × StandsFor (nodes_of table) table.root rows

  -- the table stands for the rows, each a prefix of W bits with an index of 1 or more
  pub record IsRadixOf (rows : List (Block × ℕ)) (table : Linked W) : Type 0 where
    pub blocks : AreBlocks W rows
    pub indexes : HaveIndexes rows
    pub stands : StandsFor (nodes_of table) table.root rows

  -- the same node at each key, and the same root; nothing is left to settle
  pub record IsSameAs (old new : Linked W) : Type 0 where
    pub root : new.root ≡ old.root
    pub nodes : (key : ℕ) → nodes_of new key ≡ nodes_of old key
    pub settled : new.unsettled ≡ 0

  -- whatever rows a table stood for, it stands for them with the edits made; at most three nodes an edit
  -- were written to, and no more pages
  pub record IsEdited (old new : Linked W) (edits : List IndexChange) : Type 0 where
    pub rows : (rows : List (Block × ℕ)) → StandsFor (nodes_of old) old.root rows → StandsFor (nodes_of new) new.root (with_edits edits rows)
    pub few : DifferAtMost (3 * length edits) (nodes_of old) (nodes_of new)
    pub pages : new.unsettled ≤ old.unsettled + 3 * length edits

  -- a trie that is written to, as a table
  abbrev pub working : Trie W → Linked W
  working trie = record { nodes = inl trie.nodes.slots; root = trie.root; unsettled = trie.nodes.unsettled; made = 0 }
