-- What a walk down a trie finds is the longest row.
use Rattle.std.proofs.Common.{◌≡◌, ℕ, ◌+◌, ◌<◌, ◌≤◌, Bool, true, false, cond, List, [], ◌∷◌, ◌++◌, Option, Some, None, refl, sym, ap, ◌∙◌, arith, inl, inr, subst}
use Rattle.std.proofs.lemmas.Bool.{cases_Bool, both_ways, cond-true, cond-false, lt-ltb}
use Rattle.std.specs.Option.{option_or}
use Rattle.std.specs.Prelude.{is_some}
use Rattle.prefix_width.specs.Prefix.{Block, bit_of, contains}
use Rattle.prefix_width.specs.Longest.{longer, longest}
use Rattle.module_trait.specs.Rows.{index_of}
use Rattle.module_trait.proofs.MatchLemmas.{longer_assoc, longer-none}
use Rattle.radix_lockless.specs.declared.node.Node.{Node}
use Rattle.radix_lockless.specs.Trie.{Tree, IsUnder, IsTrie, IsTrieOf, Shows, StandsFor, key_of, own_rows, rows_of}
use Rattle.radix_lockless.specs.Trie.Tree.{Empty, Fork}
use Rattle.radix_lockless.proofs.BelowLemmas.{child_in, child_side}
use Rattle.radix_lockless.proofs.TreeLemmas.{key_there, node_here, one_tree}

-- the longest of joined lists
longest-append : (w : ℕ) (rows more : List (Block × ℕ)) (a : ℕ) → longest w (rows ++ more) a ≡ longer (longest w rows a) (longest w more a)
longest-append w [] more a = refl
longest-append w (r ∷ rows) more a = ap (longer (cond (contains w r.0 a) (Some r) None)) (longest-append w rows more a) ∙ sym (longer_assoc (cond (contains w r.0 a) (Some r) None) (longest w rows a) (longest w more a))

abbrev pub own_row : Block → Option ℕ → Option (Block × ℕ)
own_row p None = None
own_row p (Some index) = Some (p, index)

-- the last row on the way down to the address
abbrev pub found_in : ℕ → Tree → ℕ → Option (Block × ℕ)
found_in w Empty a = None
found_in w (Fork key p index left right) a =
    cond (contains w p a)
    (option_or (cond (bit_of w p.len a) (found_in w right a) (found_in w left a)) (own_row p index))
    None

-- the topmost prefix doesn't contain the address
abbrev pub IsOutside : ℕ → ℕ → Tree → Type 0
IsOutside w a Empty = Unit {0}
IsOutside w a (Fork key p index left right) = contains w p a ≡ false

outside_child : (w : ℕ) (p : Block) (side : Bool) (t : Tree) (a : ℕ) → IsTrie w t → IsUnder w p side t → contains w p a ≡ false → IsOutside w a t
outside_child w p side Empty a trie under out = tt
outside_child w p side (Fork key q index left right) a trie under out =
    elim (cases_Bool (contains w q a)) [
      | inl h ↦ absurd (both_ways _ out (child_in w p q side a trie.0.2 under h))
      | inr h ↦ h
    ]

other_side : (w : ℕ) (p : Block) (side other : Bool) (t : Tree) (a : ℕ) → IsTrie w t → IsUnder w p side t → bit_of w p.len a ≡ other → (side ≡ other → ⊥) → IsOutside w a t
other_side w p side other Empty a trie under bit differ = tt
other_side w p side other (Fork key q index left right) a trie under bit differ =
    elim (cases_Bool (contains w q a)) [
      | inl h ↦ absurd (differ (sym (child_side w p q side a trie.0.2 under h) ∙ bit))
      | inr h ↦ h
    ]

hit_own : (w : ℕ) (p : Block) (index : Option ℕ) (a : ℕ) → contains w p a ≡ true → longest w (own_rows p index) a ≡ own_row p index
hit_own w p None a h = refl
hit_own w p (Some i) a h = longer-none _ ∙ cond-true _ _ _ h

miss_own : (w : ℕ) (p : Block) (index : Option ℕ) (a : ℕ) → contains w p a ≡ false → longest w (own_rows p index) a ≡ None
miss_own w p None a h = refl
miss_own w p (Some i) a h = longer-none _ ∙ cond-false _ _ _ h

-- no row outside
pub none_outside : (w : ℕ) (t : Tree) (a : ℕ) → IsTrie w t → IsOutside w a t → longest w (rows_of t) a ≡ None
none_outside w Empty a trie out = refl
none_outside w (Fork key p index left right) a trie out =
    let l = none_outside w left a trie.4 (outside_child w p false left a trie.4 trie.1 out) in
    let r = none_outside w right a trie.5 (outside_child w p true right a trie.5 trie.2 out) in
    longest-append w (own_rows p index) (rows_of left ++ rows_of right) a
    ∙ ap (λ x. longer x (longest w (rows_of left ++ rows_of right) a)) (miss_own w p index a out)
    ∙ longest-append w (rows_of left) (rows_of right) a
    ∙ ap (λ x. longer x (longest w (rows_of right) a)) l ∙ r

-- the length of a row that is there is above n
abbrev pub IsAbove : ℕ → Option (Block × ℕ) → Type 0
IsAbove n None = Unit {0}
IsAbove n (Some row) = n < row.0.len

above_less : (m n : ℕ) (x : Option (Block × ℕ)) → m < n → IsAbove n x → IsAbove m x
above_less m n None h above = tt
above_less m n (Some row) h above = omega (arith, above)

above_own : (n : ℕ) (q : Block) (index : Option ℕ) → n < q.len → IsAbove n (own_row q index)
above_own n q None h = tt
above_own n q (Some i) h = h

above_or : (n : ℕ) (x y : Option (Block × ℕ)) → IsAbove n x → IsAbove n y → IsAbove n (option_or x y)
above_or n None y hx hy = hy
above_or n (Some row) y hx hy = hx

above_cond : (n : ℕ) (b : Bool) (x y : Option (Block × ℕ)) → IsAbove n x → IsAbove n y → IsAbove n (cond b x y)
above_cond n true x y hx hy = hx
above_cond n false x y hx hy = hy

-- what is found below is longer
found_longer : (w : ℕ) (p : Block) (side : Bool) (t : Tree) (a : ℕ) → IsTrie w t → IsUnder w p side t → IsAbove p.len (found_in w t a)
found_longer w p side Empty a trie under = tt
found_longer w p side (Fork key q index left right) a trie under =
    let l = above_less p.len q.len _ under.longer (found_longer w q false left a trie.4 trie.1) in
    let r = above_less p.len q.len _ under.longer (found_longer w q true right a trie.5 trie.2) in
    above_cond p.len (contains w q a) _ _
    (above_or p.len _ _ (above_cond p.len (bit_of w q.len a) _ _ r l) (above_own p.len q index under.longer))
    tt

-- a longer row comes before the own one
or_longer : (p : Block) (index : Option ℕ) (x : Option (Block × ℕ)) → IsAbove p.len x → option_or x (own_row p index) ≡ longer (own_row p index) x
or_longer p None None above = refl
or_longer p None (Some row) above = refl
or_longer p (Some i) None above = refl
or_longer p (Some i) (Some row) above = sym (cond-true _ _ _ (lt-ltb p.len row.0.len above))

-- the walk's answer is the longest row
pub found-longest : (w : ℕ) (t : Tree) (a : ℕ) → IsTrie w t → found_in w t a ≡ longest w (rows_of t) a
found-longest w Empty a trie = refl
found-longest w (Fork key p index left right) a trie =
    let whole = longest-append w (own_rows p index) (rows_of left ++ rows_of right) a in
    let parts = longest-append w (rows_of left) (rows_of right) a in
    elim (cases_Bool (contains w p a)) [
      | inr h ↦ cond-false _ _ _ h ∙ sym (none_outside w (Fork key p index left right) a trie h)
      | inl h ↦
          cond-true _ _ _ h
          ∙ elim (cases_Bool (bit_of w p.len a)) [
            | inl b ↦
                ap (λ x. option_or x (own_row p index)) (cond-true _ _ _ b)
                ∙ or_longer p index (found_in w right a) (found_longer w p true right a trie.5 trie.2)
                ∙ ap (longer (own_row p index)) (found-longest w right a trie.5 ∙ sym (parts ∙ ap (λ x. longer x (longest w (rows_of right) a)) (none_outside w left a trie.4 (other_side w p false true left a trie.4 trie.1 b (λ e. cc)))))
                ∙ ap (λ x. longer x (longest w (rows_of left ++ rows_of right) a)) (sym (hit_own w p index a h)) ∙ sym whole
            | inr b ↦
                ap (λ x. option_or x (own_row p index)) (cond-false _ _ _ b)
                ∙ or_longer p index (found_in w left a) (found_longer w p false left a trie.4 trie.1)
                ∙ ap (longer (own_row p index)) (found-longest w left a trie.4 ∙ sym (parts ∙ ap (longer (longest w (rows_of left) a)) (none_outside w right a trie.5 (other_side w p true false right a trie.5 trie.2 b (λ e. cc))) ∙ longer-none _))
                ∙ ap (λ x. longer x (longest w (rows_of left ++ rows_of right) a)) (sym (hit_own w p index a h)) ∙ sym whole
          ]
    ]

-- the topmost prefix is of this length at least
abbrev pub IsDeep : ℕ → Tree → Type 0
IsDeep low Empty = Unit {0}
IsDeep low (Fork key p index left right) = low ≤ p.len

under_deep : (w : ℕ) (p : Block) (side : Bool) (t : Tree) → IsUnder w p side t → IsDeep (p.len + 1) t
under_deep w p side Empty under = tt
under_deep w p side (Fork key q index left right) under = let l = under.longer in omega (arith, l)

less_deep : (low more : ℕ) (t : Tree) → low ≤ more → IsDeep more t → IsDeep low t
less_deep low more Empty h deep = tt
less_deep low more (Fork key q index left right) h deep = omega (arith, h, deep)

index_own : (p : Block) (index best : Option ℕ) (last : Option (Block × ℕ)) → best ≡ index_of last → option_or index best ≡ index_of (option_or (own_row p index) last)
index_own p None best last e = e
index_own p (Some i) best last e = refl

or_assoc : (x y z : Option (Block × ℕ)) → option_or (option_or x y) z ≡ option_or x (option_or y z)
or_assoc None y z = refl
or_assoc (Some x) y z = refl

or_none : (x : Option (Block × ℕ)) → x ≡ option_or x None
or_none None = refl
or_none (Some x) = refl

from_zero : (t : Tree) → IsDeep 0 t
from_zero Empty = tt
from_zero (Fork key p index left right) = omega arith

module _ {W : ℕ} where
  -- a walk to the address has come to this key and best index
  pub record IsWalk (nodes : ℕ → Option (Node W)) (root : Option ℕ) (a : ℕ) (at best : Option ℕ) (low : ℕ) : Type 0 where
    pub tree : Tree
    pub here : Tree
    pub last : Option (Block × ℕ)
    pub is_trie : IsTrieOf nodes root tree
    pub at_is : at ≡ key_of here
    pub shows : Shows nodes here
    pub trie : IsTrie W here
    pub deep : IsDeep low here
    pub best_is : best ≡ index_of last
    pub answer : found_in W tree a ≡ option_or (found_in W here a) last

  -- it begins at the root
  pub walk_begins : (nodes : ℕ → Option (Node W)) (root : Option ℕ) (a : ℕ) (rows : List (Block × ℕ)) → StandsFor nodes root rows → IsWalk nodes root a root None 0
  walk_begins nodes root a rows stands =
      let t = stands.is_trie in
      record {
        tree = stands.tree;
        here = stands.tree;
        last = None;
        is_trie = t;
        at_is = t.rooted;
        shows = t.shows;
        trie = t.trie;
        deep = from_zero stands.tree;
        best_is = refl;
        answer = or_none (found_in W stands.tree a);
      }

  pub walk_there : (nodes : ℕ → Option (Node W)) (root : Option ℕ) (a key : ℕ) (best : Option ℕ) (low : ℕ) (walk : IsWalk nodes root a (Some key) best low) → is_some (nodes key) ≡ true
  walk_there nodes root a key best low walk = key_there nodes walk.here key walk.at_is walk.shows

  -- and goes on below a node that contains the address
  pub walk_down : (nodes : ℕ → Option (Node W)) (root : Option ℕ) (a key : ℕ) (node : Node W) (best : Option ℕ) (low : ℕ) (b : Bool) (walk : IsWalk nodes root a (Some key) best low) → nodes key ≡ Some node → contains W node.prefix a ≡ true → bit_of W node.prefix.len a ≡ b
      → IsWalk nodes root a (cond b node.right node.left) (option_or node.index best) (node.prefix.len + 1)
  walk_down nodes root a key node best low b walk there inside bit =
      let h = node_here nodes walk.here key node walk.at_is walk.shows there in
      let p = node.prefix in
      let shows : Shows nodes (Fork key p node.index h.left h.right) = subst (λ (t : Tree). Shows nodes t) h.here_is walk.shows in
      let trie : IsTrie W (Fork key p node.index h.left h.right) = subst (λ (t : Tree). IsTrie W t) h.here_is walk.trie in
      record {
        tree = walk.tree;
        here = cond b h.right h.left;
        last = option_or (own_row p node.index) walk.last;
        is_trie = walk.is_trie;
        at_is = elim b as (λ c. cond c node.right node.left ≡ key_of (cond c h.right h.left)) [ true ↦ h.right_is | false ↦ h.left_is ];
        shows = elim b as (λ c. Shows nodes (cond c h.right h.left)) [ true ↦ shows.2 | false ↦ shows.1 ];
        trie = elim b as (λ c. IsTrie W (cond c h.right h.left)) [ true ↦ trie.5 | false ↦ trie.4 ];
        deep = elim b as (λ c. IsDeep (p.len + 1) (cond c h.right h.left)) [ true ↦ under_deep W p true h.right trie.2 | false ↦ under_deep W p false h.left trie.1 ];
        best_is = index_own p node.index best walk.last walk.best_is;
        answer =
            walk.answer
            ∙ ap (λ t. option_or (found_in W t a) walk.last) h.here_is
            ∙ ap (λ x. option_or x walk.last) (cond-true _ _ _ inside ∙ ap (λ c. option_or (cond c (found_in W h.right a) (found_in W h.left a)) (own_row p node.index)) bit)
            ∙ or_assoc (cond b (found_in W h.right a) (found_in W h.left a)) (own_row p node.index) walk.last
            ∙ ap (λ x. option_or x (option_or (own_row p node.index) walk.last)) (elim b as (λ c. cond c (found_in W h.right a) (found_in W h.left a) ≡ found_in W (cond c h.right h.left) a) [ true ↦ refl | false ↦ refl ]);
      }

  -- where it ends, the best index is the longest row's
  walk_ends : (nodes : ℕ → Option (Node W)) (root : Option ℕ) (a : ℕ) (at best : Option ℕ) (low : ℕ) (walk : IsWalk nodes root a at best low) → found_in W walk.here a ≡ None → (rows : List (Block × ℕ)) → StandsFor nodes root rows → best ≡ index_of (longest W rows a)
  walk_ends nodes root a at best low walk none rows stands =
      let trees = one_tree nodes walk.tree stands.tree (sym walk.is_trie.rooted ∙ stands.is_trie.rooted) walk.is_trie.shows stands.is_trie.shows in
      walk.best_is
      ∙ ap index_of (sym (walk.answer ∙ ap (λ x. option_or x walk.last) none) ∙ found-longest W walk.tree a walk.is_trie.trie ∙ ap (λ t. longest W (rows_of t) a) trees ∙ ap (λ r. longest W r a) (sym stands.rows_are))

  -- at no node
  pub ends_at_none : (nodes : ℕ → Option (Node W)) (root : Option ℕ) (a : ℕ) (best : Option ℕ) (low : ℕ) (walk : IsWalk nodes root a None best low) → (rows : List (Block × ℕ)) → StandsFor nodes root rows → best ≡ index_of (longest W rows a)
  ends_at_none nodes root a best low walk = walk_ends nodes root a None best low walk (go walk.here walk.at_is)
    where
      go : (here : Tree) → None ≡ key_of here → found_in W here a ≡ None
      go Empty at = refl
      go (Fork key p index left right) at = absurd (cc)

  -- at a node that doesn't contain the address
  pub ends_outside : (nodes : ℕ → Option (Node W)) (root : Option ℕ) (a key : ℕ) (node : Node W) (best : Option ℕ) (low : ℕ) (walk : IsWalk nodes root a (Some key) best low) → nodes key ≡ Some node → contains W node.prefix a ≡ false → (rows : List (Block × ℕ)) → StandsFor nodes root rows → best ≡ index_of (longest W rows a)
  ends_outside nodes root a key node best low walk there out =
      let h = node_here nodes walk.here key node walk.at_is walk.shows there in
      walk_ends nodes root a (Some key) best low walk (ap (λ t. found_in W t a) h.here_is ∙ cond-false _ _ _ out)

  -- below a node as long as an address
  pub ends_deep : (nodes : ℕ → Option (Node W)) (root : Option ℕ) (a : ℕ) (at best : Option ℕ) (low : ℕ) (walk : IsWalk nodes root a at best low) → W < low → (rows : List (Block × ℕ)) → StandsFor nodes root rows → best ≡ index_of (longest W rows a)
  ends_deep nodes root a at best low walk h = walk_ends nodes root a at best low walk (go walk.here walk.trie walk.deep)
    where
      go : (here : Tree) → IsTrie W here → IsDeep low here → found_in W here a ≡ None
      go Empty trie deep = refl
      go (Fork key p index left right) trie deep = absurd (let k = trie.0.2 in omega (arith, h, deep, k))

  -- the walk has come no deeper than the node's length
  pub walk_low : (nodes : ℕ → Option (Node W)) (root : Option ℕ) (a key : ℕ) (node : Node W) (best : Option ℕ) (low : ℕ) (walk : IsWalk nodes root a (Some key) best low) → nodes key ≡ Some node → (low ≤ node.prefix.len) × (node.prefix.len ≤ W)
  walk_low nodes root a key node best low walk there =
      let h = node_here nodes walk.here key node walk.at_is walk.shows there in
      (subst (λ (t : Tree). IsDeep low t) h.here_is walk.deep, (subst (λ (t : Tree). IsTrie W t) h.here_is walk.trie).0.2)

  pub walk_weaker : (nodes : ℕ → Option (Node W)) (root : Option ℕ) (a : ℕ) (at best : Option ℕ) (low more : ℕ) → low ≤ more → IsWalk nodes root a at best more → IsWalk nodes root a at best low
  walk_weaker nodes root a at best low more h walk =
      record { tree = walk.tree; here = walk.here; last = walk.last; is_trie = walk.is_trie; at_is = walk.at_is; shows = walk.shows; trie = walk.trie; deep = less_deep low more walk.here h walk.deep; best_is = walk.best_is; answer = walk.answer }
