-- The way down to a prefix.
use Rattle.std.proofs.Common.{◌≡◌, ◌==◌, not, ℕ, ◌+◌, ◌-◌, ◌<◌, ◌≤◌, Bool, true, false, cond, List, Option, Some, None, refl, sym, ap, ◌∙◌, arith, subst}
use Rattle.std.specs.Prelude.{is_some, ◌&&◌}
use Rattle.std.proofs.lemmas.Bool.{both_ways}
use Rattle.std.proofs.lemmas.Bool.Decides.{nat_tests}
use Rattle.prefix_width.specs.Prefix.{Block, bit_of, contains}
use Rattle.module_trait.proofs.KeyLemmas.{same_block}
use Rattle.radix_lockless.specs.declared.node.Node.{Node}
use Rattle.radix_lockless.specs.declared.trie.Link.{Link}
use Rattle.radix_lockless.specs.Trie.{Tree, IsTrie, IsTrieOf, IsUnder, StandsFor, key_of}
use Rattle.radix_lockless.specs.Trie.Tree.{Fork}
use Rattle.radix_lockless.specs.Path.{Path, EndsAt, IsOnWay, plug}
use Rattle.radix_lockless.specs.Path.Path.{Top, OnLeft, OnRight}
use Rattle.radix_lockless.specs.Spot.{IsSpot, entry_of, grand_of, leads_to, link_of}
use Rattle.radix_lockless.proofs.TreeLemmas.{IsNodeHere, key_there, node_here}
use Rattle.radix_lockless.proofs.PathLemmas.{Fits, shows_here, trie_here}

pub led : (w : ℕ) (p q : Block) → leads_to w p q ≡ true → (p.len < q.len) × (contains w p q.base ≡ true)
led w p q h = grind (arith, nat_tests)

stops : (w : ℕ) (p q : Block) → leads_to w p q ≡ false → p.len < q.len → contains w p q.base ≡ true → ⊥
stops w p q h l c = grind (arith, nat_tests)

-- what a test of two prefixes tells
pub same_from_test : (p q : Block) → ((p.base == q.base) && (p.len == q.len)) ≡ true → p ≡ q
same_from_test p q h =
    let b : p.base ≡ q.base = grind (arith, nat_tests) in
    let l : p.len ≡ q.len = grind (arith, nat_tests) in
    same_block p q b l

pub differ_from_test : (p q : Block) → ((p.base == q.base) && (p.len == q.len)) ≡ false → p ≡ q → ⊥
differ_from_test p q h e =
    let b : p.base ≡ q.base = ap (λ (x : Block). x.base) e in
    let l : p.len ≡ q.len = ap (λ (x : Block). x.len) e in
    let t : ((p.base == q.base) && (p.len == q.len)) ≡ true = grind (arith, nat_tests) in
    both_ways _ h t

pub not_true : (b : Bool) → not b ≡ true → b ≡ false
not_true true h = absurd (cc)
not_true false h = refl

pub not_false : (b : Bool) → not b ≡ false → b ≡ true
not_false true h = refl
not_false false h = absurd (cc)

module _ {W : ℕ} where
  -- how many bits are left below the node above
  abbrev pub bits_left : Option (Link W) → ℕ
  bits_left None = W + 1
  bits_left (Some link) = W - link.node.prefix.len

  -- a descent to q has come to this key
  pub record IsDescent (nodes : ℕ → Option (Node W)) (root : Option ℕ) (q : Block) (grand parent : Option (Link W)) (at : Option ℕ) : Type 0 where
    pub path : Path
    pub here : Tree
    pub is_trie : IsTrieOf nodes root (plug path here)
    pub way : IsOnWay W q path
    pub grand_is : grand ≡ grand_of path here
    pub parent_is : parent ≡ link_of path here
    pub at_is : at ≡ key_of here

  pub descent_begins : (nodes : ℕ → Option (Node W)) (root : Option ℕ) (q : Block) (rows : List (Block × ℕ)) → StandsFor nodes root rows → IsDescent nodes root q None None root
  descent_begins nodes root q rows stands =
      record { path = Top; here = stands.tree; is_trie = stands.is_trie; way = tt; grand_is = refl; parent_is = refl; at_is = stands.is_trie.rooted }

  pub descent_there : (nodes : ℕ → Option (Node W)) (root : Option ℕ) (q : Block) (grand parent : Option (Link W)) (key : ℕ) (d : IsDescent nodes root q grand parent (Some key)) → is_some (nodes key) ≡ true
  descent_there nodes root q grand parent key d = key_there nodes d.here key d.at_is (shows_here nodes d.path d.here d.is_trie.shows).0

  here_of : (nodes : ℕ → Option (Node W)) (root : Option ℕ) (q : Block) (grand parent : Option (Link W)) (key : ℕ) (node : Node W) (d : IsDescent nodes root q grand parent (Some key)) → nodes key ≡ Some node → IsNodeHere d.here key node
  here_of nodes root q grand parent key node d there = node_here nodes d.here key node d.at_is (shows_here nodes d.path d.here d.is_trie.shows).0 there

  -- it goes on below a prefix that leads to q
  pub descent_down : (nodes : ℕ → Option (Node W)) (root : Option ℕ) (q : Block) (grand parent : Option (Link W)) (key : ℕ) (node : Node W) (b : Bool) (d : IsDescent nodes root q grand parent (Some key)) → nodes key ≡ Some node → leads_to W node.prefix q ≡ true → bit_of W node.prefix.len q.base ≡ b
      → IsDescent nodes root q parent (Some (record { key = key; node = node; right = b })) (cond b node.right node.left)
  descent_down nodes root q grand parent key node true d there leads bit =
      let h = here_of nodes root q grand parent key node d there in
      let l = led W node.prefix q leads in
      record {
        path = OnRight key node.prefix node.index h.left d.path;
        here = h.right;
        is_trie = subst (λ (t : Tree). IsTrieOf nodes root (plug d.path t)) h.here_is d.is_trie;
        way = (record { longer = l.0; covered = l.1; on_side = bit }, d.way);
        grand_is = d.parent_is ∙ ap (link_of d.path) h.here_is;
        parent_is = ap (λ (n : Node W). Some (record { key = key; node = n; right = true })) (sym h.node_is);
        at_is = h.right_is;
      }
  descent_down nodes root q grand parent key node false d there leads bit =
      let h = here_of nodes root q grand parent key node d there in
      let l = led W node.prefix q leads in
      record {
        path = OnLeft key node.prefix node.index h.right d.path;
        here = h.left;
        is_trie = subst (λ (t : Tree). IsTrieOf nodes root (plug d.path t)) h.here_is d.is_trie;
        way = (record { longer = l.0; covered = l.1; on_side = bit }, d.way);
        grand_is = d.parent_is ∙ ap (link_of d.path) h.here_is;
        parent_is = ap (λ (n : Node W). Some (record { key = key; node = n; right = false })) (sym h.node_is);
        at_is = h.left_is;
      }

  -- with fewer bits left
  pub bits_fall : (nodes : ℕ → Option (Node W)) (root : Option ℕ) (q : Block) (grand parent : Option (Link W)) (key : ℕ) (node : Node W) (d : IsDescent nodes root q grand parent (Some key)) → nodes key ≡ Some node → W - node.prefix.len < bits_left parent
  bits_fall nodes root q grand parent key node d there =
      let h = here_of nodes root q grand parent key node d there in
      let trie : IsTrie W (plug d.path (Fork key node.prefix node.index h.left h.right)) = subst (λ (t : Tree). IsTrie W (plug d.path t)) h.here_is d.is_trie.trie in
      let at = trie_here W d.path (Fork key node.prefix node.index h.left h.right) trie in
      subst (λ (x : Option (Link W)). W - node.prefix.len < bits_left x) (sym (d.parent_is ∙ ap (link_of d.path) h.here_is)) (go d.path (Fork key node.prefix node.index h.left h.right) node.prefix at.0.0.2 at.1 refl)
    where
      go : (path : Path) (t : Tree) (r : Block) → r.len ≤ W → Fits W path t → t ≡ Fork key r node.index (here_of nodes root q grand parent key node d there).left (here_of nodes root q grand parent key node d there).right → W - r.len < bits_left (link_of path t)
      go Top t r k fits e = omega arith
      go (OnLeft j p i right up) t r k fits e = (let u = (subst (λ (x : Tree). IsUnder W p false x) e fits.0).longer in omega (arith, u, k))
      go (OnRight j p i left up) t r k fits e = (let u = (subst (λ (x : Tree). IsUnder W p true x) e fits.0).longer in omega (arith, u, k))

  -- it ends at a prefix that doesn't
  pub descent_ends : (nodes : ℕ → Option (Node W)) (root : Option ℕ) (q : Block) (grand parent : Option (Link W)) (key : ℕ) (node : Node W) (d : IsDescent nodes root q grand parent (Some key)) → nodes key ≡ Some node → leads_to W node.prefix q ≡ false
      → IsSpot nodes root q (record { grand = grand; parent = parent; here = Some (record { key = key; node = node }) })
  descent_ends nodes root q grand parent key node d there leads =
      let h = here_of nodes root q grand parent key node d there in
      record {
        path = d.path;
        here = d.here;
        is_trie = d.is_trie;
        way = d.way;
        ends = subst (λ (t : Tree). EndsAt W q t) (sym h.here_is) (stops W node.prefix q leads);
        grand_is = d.grand_is;
        parent_is = d.parent_is;
        here_is = sym (ap entry_of h.here_is ∙ ap (λ (n : Node W). Some (record { key = key; node = n })) h.node_is);
      }
