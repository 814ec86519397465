-- A place in a trie as the code sees it, and the writes of a change.
use Rattle.std.specs.Prelude.{◌≡◌, ℕ, ◌+◌, ◌≤◌, nat_lt, ◌&&◌, Bool, true, false, List, Option, Some, None, IsSome, if◌then◌else◌}
use Rattle.prefix_width.specs.Prefix.{Block, contains}
use Rattle.module_trait.specs.Nodes.{Updates, node_at}
use Rattle.module_trait.specs.View.{with_row}
use Rattle.radix_lockless.specs.declared.node.Node.{Node}
use Rattle.radix_lockless.specs.declared.trie.Entry.{Entry}
use Rattle.radix_lockless.specs.declared.trie.Link.{Link}
use Rattle.radix_lockless.specs.declared.trie.Spot.{Spot}
use Rattle.radix_lockless.specs.declared.trie.Trie.{Trie}
use Rattle.radix_lockless.specs.Trie.{Tree, DifferAtMost, IsTrieOf, StandsFor, node_of}
use Rattle.radix_lockless.specs.Trie.Tree.{Empty, Fork}
use Rattle.radix_lockless.specs.Path.{Path, EndsAt, IsOnWay, plug}
use Rattle.radix_lockless.specs.Path.Path.{Top, OnLeft, OnRight}

-- the way to q goes on below p: p is shorter, and covers it
abbrev pub leads_to : ℕ → Block → Block → Bool
leads_to w p q = nat_lt p.len q.len && contains w p q.base

module _ {W : ℕ} where
  -- the link from above to a tree at a place
  abbrev pub link_of : Path → Tree → Option (Link W)
  link_of Top t = None
  link_of (OnLeft key prefix index right up) t = Some (record { key = key; node = node_of prefix index t right; right = false })
  link_of (OnRight key prefix index left up) t = Some (record { key = key; node = node_of prefix index left t; right = true })

  -- the link to the node above
  abbrev pub grand_of : Path → Tree → Option (Link W)
  grand_of Top t = None
  grand_of (OnLeft key prefix index right up) t = link_of up (Fork key prefix index t right)
  grand_of (OnRight key prefix index left up) t = link_of up (Fork key prefix index left t)

  -- the topmost node
  abbrev pub entry_of : Tree → Option (Entry W)
  entry_of Empty = None
  entry_of (Fork key prefix index left right) = Some (record { key = key; node = node_of prefix index left right })

  -- the spot is the place where the way down to q ends
  pub record IsSpot (nodes : ℕ → Option (Node W)) (root : Option ℕ) (q : Block) (spot : Spot W) : Type 0 where
    pub path : Path
    pub here : Tree
    pub is_trie : IsTrieOf nodes root (plug path here)
    pub way : IsOnWay W q path
    pub ends : EndsAt W q here
    pub grand_is : spot.grand ≡ grand_of path here
    pub parent_is : spot.parent ≡ link_of path here
    pub here_is : spot.here ≡ entry_of here

  -- a link's node with another key there
  abbrev pub linked : Link W → Option ℕ → Node W
  linked link at = if link.right then record link.node { right = at } else record link.node { left = at }

  -- the key on a link's other side
  abbrev pub sibling : Link W → Option ℕ
  sibling link = if link.right then link.node.left else link.node.right

  -- a node with one child on a side, and another on the other
  abbrev pub parted : Block → Option ℕ → Bool → Option ℕ → Option ℕ → Node W
  parted prefix index right on_side beside =
      if right then record { prefix = prefix; index = index; left = beside; right = on_side } else record { prefix = prefix; index = index; left = on_side; right = beside }

  -- no node is above, or one with an index
  abbrev pub IsFreeAbove : Option (Link W) → Type 0
  IsFreeAbove None = Unit {0}
  IsFreeAbove (Some link) = IsSome link.node.index

  -- the node above, or the root, leads to this key, and all else is as before
  abbrev pub IsLinkSet : Trie W → Trie W → Option (Link W) → Option ℕ → Type 0
  IsLinkSet old new None at = (new.root ≡ at) × (new.nodes.slots ≡ old.nodes.slots)
  IsLinkSet old new (Some link) at = (new.root ≡ old.root) × Updates old.nodes.slots new.nodes.slots link.key (Some (linked link at))

  -- whatever rows the trie stood for, it stands for them with this index at the prefix; three nodes at most were written to, and two at most put
  pub record IsChange (old new : Trie W) (q : Block) (index : Option ℕ) : Type 0 where
    pub rows : (rows : List (Block × ℕ)) → StandsFor (node_at old.nodes.slots) old.root rows → StandsFor (node_at new.nodes.slots) new.root (with_row rows q index)
    pub few : DifferAtMost 3 (node_at old.nodes.slots) (node_at new.nodes.slots)
    pub spare : old.nodes.spare ≤ new.nodes.spare + 2

  -- no more room was made, and at most three pages were written to
  pub record IsLittle (old new : Trie W) : Type 0 where
    pub room : new.nodes.spare ≤ old.nodes.spare
    pub pages : new.nodes.unsettled ≤ old.nodes.unsettled + 3
