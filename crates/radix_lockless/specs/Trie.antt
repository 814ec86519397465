-- A trie as a tree, the nodes by key that show it, and the rows that it stands for.
use Rattle.std.specs.Prelude.{◌≡◌, ◌≢◌, ℕ, ◌+◌, ◌<◌, ◌≤◌, ◌==◌, length, Bool, true, false, List, [], ◌∷◌, ◌++◌, Option, Some, None, is_some, if◌then◌else◌}
use Rattle.prefix_width.specs.Prefix.{Block, IsBlock, bit_of, contains}
use Rattle.radix_lockless.specs.declared.node.Node.{Node}

-- a node under its key, with the trees on the two sides of its prefix's next bit
pub data Tree : Type 0 where
  Empty : Tree
  Fork : (key : ℕ) (prefix : Block) (index : Option ℕ) (left right : Tree) → Tree

-- the key of the topmost node
abbrev pub key_of : Tree → Option ℕ
key_of Empty = None
key_of (Fork key prefix index left right) = Some key

-- the row of a prefix, if it has an index
abbrev pub own_rows : Block → Option ℕ → List (Block × ℕ)
own_rows prefix None = []
own_rows prefix (Some index) = (prefix, index) ∷ []

-- the rows of a tree: those of the nodes with an index, in order
abbrev pub rows_of : Tree → List (Block × ℕ)
rows_of Empty = []
rows_of (Fork key prefix index left right) = own_rows prefix index ++ (rows_of left ++ rows_of right)

-- the second prefix is longer, begins with the first, and its next bit is on this side
pub record IsBelow (w : ℕ) (p q : Block) (side : Bool) : Type 0 where
  pub longer : p.len < q.len
  pub covered : contains w p q.base ≡ true
  pub on_side : bit_of w p.len q.base ≡ side

-- the tree's topmost prefix is below p on this side
abbrev pub IsUnder : ℕ → Block → Bool → Tree → Type 0
IsUnder w p side Empty = Unit {0}
IsUnder w p side (Fork key prefix index left right) = IsBelow w p prefix side

abbrev pub IsFork : Tree → Type 0
IsFork Empty = ⊥
IsFork (Fork key prefix index left right) = Unit {0}

-- a node is there for its index, or to part two children
abbrev pub IsJustified : Option ℕ → Tree → Tree → Type 0
IsJustified None left right = IsFork left × IsFork right
IsJustified (Some index) left right = Unit {0}

-- each node's prefix is one of w bits, its children are below it, each on its side, and it is justified
abbrev pub IsTrie : ℕ → Tree → Type 0
IsTrie w Empty = Unit {0}
IsTrie w (Fork key prefix index left right) =
    IsBlock w prefix × IsUnder w prefix false left × IsUnder w prefix true right × IsJustified index left right × IsTrie w left × IsTrie w right

-- one or none
abbrev pub one_if : Bool → ℕ
one_if b = if b then 1 else 0

-- how often a key is in the tree
abbrev pub times : ℕ → Tree → ℕ
times k Empty = 0
times k (Fork key prefix index left right) = one_if (k == key) + (times k left + times k right)

-- the key is none of these
abbrev pub IsNoneOf : ℕ → List ℕ → Type 0
IsNoneOf k [] = Unit {0}
IsNoneOf k (key ∷ keys) = (k ≢ key) × IsNoneOf k keys

module _ {W : ℕ} where
  -- the node of a prefix, an index and the keys of the trees below
  abbrev pub node_of : Block → Option ℕ → Tree → Tree → Node W
  node_of prefix index left right = record { prefix = prefix; index = index; left = key_of left; right = key_of right }

  -- the nodes by key have the tree's nodes at their keys
  abbrev pub Shows : (ℕ → Option (Node W)) → Tree → Type 0
  Shows nodes Empty = Unit {0}
  Shows nodes (Fork key prefix index left right) =
      (nodes key ≡ Some (node_of prefix index left right)) × Shows nodes left × Shows nodes right

  -- the nodes by key, from this root, show a trie: each of its nodes is reached once, and no other key has one
  pub record IsTrieOf (nodes : ℕ → Option (Node W)) (root : Option ℕ) (tree : Tree) : Type 0 where
    pub rooted : root ≡ key_of tree
    pub shows : Shows nodes tree
    pub trie : IsTrie W tree
    pub once : (k : ℕ) → times k tree ≡ one_if (is_some (nodes k))

  -- the nodes with an index are the rows
  pub record StandsFor (nodes : ℕ → Option (Node W)) (root : Option ℕ) (rows : List (Block × ℕ)) : Type 0 where
    pub tree : Tree
    pub is_trie : IsTrieOf nodes root tree
    pub rows_are : rows ≡ rows_of tree

  -- all nodes but those at a few keys are as before
  abbrev pub DifferAtMost : ℕ → (ℕ → Option (Node W)) → (ℕ → Option (Node W)) → Type 0
  DifferAtMost n old new = (keys : List ℕ) × (length keys ≤ n) × ((k : ℕ) → IsNoneOf k keys → new k ≡ old k)
