-- Trees: their keys, their rows, and that nodes show one tree alone.
use Rattle.std.proofs.Common.{◌≡◌, ◌==◌, ℕ, ◌≤◌, Bool, true, false, List, [], ◌∷◌, ◌++◌, Option, Some, None, refl, sym, ap, ◌∙◌, arith}
use Rattle.std.proofs.lemmas.Bool.{eq-eqb}
use Rattle.std.specs.List.{AllByRecursion}
use Rattle.std.specs.Prelude.{is_some}
use Rattle.prefix_width.specs.Prefix.{Block, IsBlock}
use Rattle.radix_lockless.specs.declared.node.Node.{Node}
use Rattle.radix_lockless.specs.Trie.{Tree, IsBelow, IsUnder, IsTrie, Shows, key_of, node_of, one_if, own_rows, rows_of, times}
use Rattle.radix_lockless.specs.Trie.Tree.{Empty, Fork}
use Rattle.radix_lockless.proofs.BelowLemmas.{below_below}

pub all_append : (P : Block × ℕ → Type 0) (rows more : List (Block × ℕ)) → AllByRecursion P rows → AllByRecursion P more → AllByRecursion P (rows ++ more)
all_append P [] more a b = b
all_append P (r ∷ rows) more a b = (a.0, all_append P rows more a.1 b)

pub all_weaker : (P Q : Block × ℕ → Type 0) (rows : List (Block × ℕ)) → ((r : Block × ℕ) → P r → Q r) → AllByRecursion P rows → AllByRecursion Q rows
all_weaker P Q [] f a = a
all_weaker P Q (r ∷ rows) f a = (f r a.0, all_weaker P Q rows f a.1)

pub both_weaker : (P Q R : Block × ℕ → Type 0) (rows : List (Block × ℕ)) → ((r : Block × ℕ) → P r → Q r → R r) → AllByRecursion P rows → AllByRecursion Q rows → AllByRecursion R rows
both_weaker P Q R [] f a b = a
both_weaker P Q R (r ∷ rows) f a b = (f r a.0 b.0, both_weaker P Q R rows f a.1 b.1)

pub all_own : (P : Block × ℕ → Type 0) (p : Block) (index : Option ℕ) → ((i : ℕ) → P (p, i)) → AllByRecursion P (own_rows p index)
all_own P p None h = tt
all_own P p (Some i) h = (h i, tt)

-- a tree below a tree's topmost node is below what that is below
pub under_under : (w : ℕ) (p n : Block) (side other : Bool) (t : Tree) → n.len ≤ w → IsBelow w p n side → IsUnder w n other t → IsUnder w p side t
under_under w p n side other Empty k up under = tt
under_under w p n side other (Fork key q index left right) k up under = below_below w p n q side other k up under

-- every row of a tree below p on a side is below p on that side
pub rows_below : (w : ℕ) (p : Block) (side : Bool) (t : Tree) → IsTrie w t → IsUnder w p side t → AllByRecursion (λ r. IsBelow w p r.0 side) (rows_of t)
rows_below w p side Empty trie under = tt
rows_below w p side (Fork key n index left right) trie under =
    all_append (λ r. IsBelow w p r.0 side) (own_rows n index) (rows_of left ++ rows_of right) (all_own (λ r. IsBelow w p r.0 side) n index (λ i. under))
    (all_append (λ r. IsBelow w p r.0 side) (rows_of left) (rows_of right)
    (rows_below w p side left trie.4 (under_under w p n side false left trie.0.2 under trie.1))
    (rows_below w p side right trie.5 (under_under w p n side true right trie.0.2 under trie.2)))

-- every row's prefix is one of w bits
pub rows_blocks : (w : ℕ) (t : Tree) → IsTrie w t → AllByRecursion (λ r. IsBlock w r.0) (rows_of t)
rows_blocks w Empty trie = tt
rows_blocks w (Fork key n index left right) trie =
    all_append (λ r. IsBlock w r.0) (own_rows n index) (rows_of left ++ rows_of right) (all_own (λ r. IsBlock w r.0) n index (λ i. trie.0))
    (all_append (λ r. IsBlock w r.0) (rows_of left) (rows_of right) (rows_blocks w left trie.4) (rows_blocks w right trie.5))

-- a key is itself
pub one_same : (k : ℕ) → one_if (k == k) ≡ 1
one_same k = ap one_if (eq-eqb k k refl)

module _ {W : ℕ} where
  -- nodes that agree at a tree's keys show it alike
  pub shows_frame : (old new : ℕ → Option (Node W)) (t : Tree) → ((k : ℕ) → 1 ≤ times k t → new k ≡ old k) → Shows old t → Shows new t
  shows_frame old new Empty same shows = tt
  shows_frame old new (Fork key p index left right) same shows = (
    same key (let e = one_same key in omega (arith, e)) ∙ shows.0,
    shows_frame old new left (λ k h. same k (omega (arith, h))) shows.1,
    shows_frame old new right (λ k h. same k (omega (arith, h))) shows.2,
  )

  -- the nodes show one tree alone
  pub one_tree : (nodes : ℕ → Option (Node W)) (t u : Tree) → key_of t ≡ key_of u → Shows nodes t → Shows nodes u → t ≡ u
  one_tree nodes Empty Empty e s r = refl
  one_tree nodes Empty (Fork key p index left right) e s r = absurd (cc)
  one_tree nodes (Fork key p index left right) Empty e s r = absurd (cc)
  one_tree nodes (Fork key p index left right) (Fork key' p' index' left' right') e s r =
      let keys : key ≡ key' = cc in
      let same : Some (node_of {W = W} p index left right) ≡ Some (node_of p' index' left' right') = sym s.0 ∙ ap nodes keys ∙ r.0 in
      let node : node_of {W = W} p index left right ≡ node_of p' index' left' right' = cc in
      let l = one_tree nodes left left' (ap (λ (n : Node W). n.left) node) s.1 r.1 in
      let q = one_tree nodes right right' (ap (λ (n : Node W). n.right) node) s.2 r.2 in
      let pp : p ≡ p' = ap (λ (n : Node W). n.prefix) node in
      let ii : index ≡ index' = ap (λ (n : Node W). n.index) node in
      cc

  -- the node at a tree's key is the tree's topmost
  pub record IsNodeHere (here : Tree) (key : ℕ) (node : Node W) : Type 0 where
    pub left : Tree
    pub right : Tree
    pub here_is : here ≡ Fork key node.prefix node.index left right
    pub left_is : node.left ≡ key_of left
    pub right_is : node.right ≡ key_of right
    pub node_is : node_of node.prefix node.index left right ≡ node

  pub node_here : (nodes : ℕ → Option (Node W)) (here : Tree) (key : ℕ) (node : Node W) → Some key ≡ key_of here → Shows nodes here → nodes key ≡ Some node → IsNodeHere here key node
  node_here nodes Empty key node at shows there = absurd (cc)
  node_here nodes (Fork k p i left right) key node at shows there =
      let keys : key ≡ k = cc in
      let same : Some node ≡ Some (node_of p i left right) = sym there ∙ ap nodes keys ∙ shows.0 in
      let e : node ≡ node_of p i left right = cc in
      record {
        left = left;
        right = right;
        here_is = ap (λ j. Fork j p i left right) (sym keys) ∙ ap (λ b. Fork key b i left right) (sym (ap (λ (n : Node W). n.prefix) e)) ∙ ap (λ j. Fork key node.prefix j left right) (sym (ap (λ (n : Node W). n.index) e));
        left_is = ap (λ (n : Node W). n.left) e;
        right_is = ap (λ (n : Node W). n.right) e;
        node_is = ap (λ (n : Node W). node_of n.prefix n.index left right) e ∙ sym e;
      }

  -- a key of a tree that is shown has a node
  pub key_there : (nodes : ℕ → Option (Node W)) (here : Tree) (key : ℕ) → Some key ≡ key_of here → Shows nodes here → is_some (nodes key) ≡ true
  key_there nodes Empty key at shows = absurd (cc)
  key_there nodes (Fork k p i left right) key at shows = let keys : key ≡ k = cc in ap (λ j. is_some (nodes j)) keys ∙ ap is_some shows.0
