-- A change at a place, from the writes that make it.
use Rattle.std.proofs.Common.{◌≡◌, ◌≢◌, ◌⊎◌, ℕ, ◌+◌, ◌≤◌, ◌<◌, Bool, true, false, List, [], ◌∷◌, ◌++◌, Option, Some, None, refl, sym, ap, ◌∙◌, arith, inl, inr, subst, length-append}
use Rattle.std.specs.Prelude.{is_some, IsSome, IfSome}
use Rattle.std.specs.Option.{option_or}
use Rattle.std.proofs.lemmas.Bool.{eq-eqb}
use Rattle.prefix_width.specs.Prefix.{Block, IsBlock, IsCommonLen, bit_of, contains, head_of, masked_block}
use Rattle.module_trait.specs.Nodes.{Updates, node_at}
use Rattle.module_trait.specs.View.{with_row}
use Rattle.radix_lockless.specs.declared.node.Node.{Node}
use Rattle.radix_lockless.specs.declared.trie.Entry.{Entry}
use Rattle.radix_lockless.specs.declared.trie.Link.{Link}
use Rattle.radix_lockless.specs.declared.trie.Spot.{Spot}
use Rattle.radix_lockless.specs.declared.trie.Trie.{Trie}
use Rattle.radix_lockless.specs.Trie.{Tree, DifferAtMost, IsFork, IsJustified, IsNoneOf, IsTrie, IsTrieOf, Shows, StandsFor, key_of, node_of, rows_of, times}
use Rattle.radix_lockless.specs.Trie.Tree.{Empty, Fork}
use Rattle.radix_lockless.specs.Path.{Path, EndsAt, IsOnWay, plug, times_around}
use Rattle.radix_lockless.specs.Path.Path.{Top, OnLeft, OnRight}
use Rattle.radix_lockless.specs.Spot.{IsChange, IsFreeAbove, IsLinkSet, IsSpot, entry_of, grand_of, link_of, linked, parted, sibling}
use Rattle.radix_lockless.proofs.TreeLemmas.{one_same, one_tree}
use Rattle.radix_lockless.proofs.PathLemmas.{shows_here, times-plug, trie_here}
use Rattle.radix_lockless.proofs.ReplaceLemmas.{IsRelinked, IsSwap, around, at_most_one, replaced, rows_replaced}
use Rattle.radix_lockless.proofs.SwapLemmas.{IsWrite, only, split_begins, split_leaf, split_swapped, swap_above, swap_index, swap_only, swap_pruned}
use Rattle.radix_lockless.proofs.RewriteLemmas.{IsFree, IsRewrite, rewrite_absent, rewrite_fork_left, rewrite_fork_right, rewrite_index, rewrite_leaf, rewrite_left_below, rewrite_only, rewrite_prune_left, rewrite_prune_right, rewrite_right_below, shares_less}

none_of_append : (k : ℕ) (xs ys : List ℕ) → IsNoneOf k (xs ++ ys) → IsNoneOf k xs × IsNoneOf k ys
none_of_append k [] ys h = (tt, h)
none_of_append k (x ∷ xs) ys h = let rest = none_of_append k xs ys h.1 in ((h.0, rest.0), rest.1)

none_key : (t : Tree) → key_of t ≡ None → t ≡ Empty
none_key Empty e = refl
none_key (Fork k p i l r) e = absurd (cc)

fork_from_key : (t : Tree) → IsSome (key_of t) → IsFork t
fork_from_key Empty some = absurd (cc)
fork_from_key (Fork k p i l r) some = tt

only_key : (l r : Tree) → option_or (key_of l) (key_of r) ≡ key_of (only l r)
only_key Empty r = refl
only_key (Fork k p i l l') r = refl

justified_now : (now : Option ℕ) (l r : Tree) → IsSome now ⊎ (IsSome (key_of l) × IsSome (key_of r)) → IsJustified now l r
justified_now None l r keeps = elim keeps [ inl some ↦ absurd (cc) | inr both ↦ (fork_from_key l both.0, fork_from_key r both.1) ]
justified_now (Some i) l r keeps = tt

free_path : (w : ℕ) (path : Path) (t : Tree) → IsFreeAbove (link_of {W = w} path t) → IsFree path
free_path w Top t free = tt
free_path w (OnLeft key p None right up) t free = absurd (cc)
free_path w (OnLeft key p (Some i) right up) t free = tt
free_path w (OnRight key p None left up) t free = absurd (cc)
free_path w (OnRight key p (Some i) left up) t free = tt

module _ {W : ℕ} where
  abbrev pub nodes_at : Trie W → ℕ → Option (Node W)
  nodes_at trie = node_at trie.nodes.slots

  -- differences add up
  pub differ_more : (m n : ℕ) (a b c : ℕ → Option (Node W)) → DifferAtMost m a b → DifferAtMost n b c → DifferAtMost (m + n) a c
  differ_more m n a b c first second = (
    first.0 ++ second.0,
    (let x = first.1 in let y = second.1 in let e = length-append first.0 second.0 in omega (arith, x, y, e)),
    λ k h. (let parts = none_of_append k first.0 second.0 h in second.2 k parts.1 ∙ first.2 k parts.0),
  )

  pub differ_none : (a : ℕ → Option (Node W)) → DifferAtMost 0 a a
  differ_none a = ([], omega arith, λ k h. refl)

  pub differ_weaker : (m n : ℕ) (a b : ℕ → Option (Node W)) → m ≤ n → DifferAtMost m a b → DifferAtMost n a b
  differ_weaker m n a b h d = (d.0, (let l = d.1 in omega (arith, l, h)), d.2)

  pub differ_write : (old new : List (Option (Node W))) (key : ℕ) (slot : Option (Node W)) → Updates old new key slot → DifferAtMost 1 (node_at old) (node_at new)
  differ_write old new key slot updates = (key ∷ [], omega arith, λ k h. updates.others k h.0)

  differ_link : (mid new : Trie W) (above : Option (Link W)) (at : Option ℕ) → IsLinkSet mid new above at → DifferAtMost 1 (nodes_at mid) (nodes_at new)
  differ_link mid new None at set = ([], omega arith, λ k h. ap (λ s. node_at s k) set.1)
  differ_link mid new (Some link) at set = differ_write mid.nodes.slots new.nodes.slots link.key (Some (linked link at)) set.1

  pub written : (old new : List (Option (Node W))) (key : ℕ) (slot : Option (Node W)) → Updates old new key slot → IsWrite (node_at old) (node_at new) key slot
  written old new key slot updates = record { changed = updates.changed; others = updates.others }

  -- the link that was set is the one above the place
  relinked_from : (mid new : Trie W) (path : Path) (t after : Tree) → IsLinkSet mid new (link_of path t) (key_of after) → IsRelinked (nodes_at mid) (nodes_at new) mid.root new.root path after
  relinked_from mid new Top t after set = (set.0, λ k. ap (λ s. node_at s k) set.1)
  relinked_from mid new (OnLeft key p i right up) t after set = (set.0, set.1.changed, set.1.others)
  relinked_from mid new (OnRight key p i left up) t after set = (set.0, set.1.changed, set.1.others)

  -- the writes so far, after which the link above is to be set
  pub record IsPlan (old mid : Trie W) (q : Block) (index : Option ℕ) (above : Option (Link W)) (at : Option ℕ) : Type 0 where
    pub path : Path
    pub before : Tree
    pub after : Tree
    pub is_trie : IsTrieOf (nodes_at old) old.root (plug path before)
    pub way : IsOnWay W q path
    pub swap : IsSwap (nodes_at old) (nodes_at mid) before after
    pub rewrite : IsRewrite W path q index before after
    pub above_is : above ≡ link_of path before
    pub at_is : at ≡ key_of after
    pub rooted : mid.root ≡ old.root

  changed_rows : (old new : ℕ → Option (Node W)) (root now : Option ℕ) (path : Path) (t after : Tree) (q : Block) (index : Option ℕ) → q.len ≤ W → IsTrieOf old root (plug path t) → IsTrieOf new now (plug path after) → IsOnWay W q path → rows_of after ≡ with_row (rows_of t) q index
      → (rows : List (Block × ℕ)) → StandsFor old root rows → StandsFor new now (with_row rows q index)
  changed_rows old new root now path t after q index k was is way change rows stands =
      let trees = one_tree old stands.tree (plug path t) (sym stands.is_trie.rooted ∙ was.rooted) stands.is_trie.shows was.shows in
      record {
        tree = plug path after;
        is_trie = is;
        rows_are = ap (λ xs. with_row xs q index) (stands.rows_are ∙ ap rows_of trees) ∙ sym (rows_replaced W path t after q index k was.trie way change);
      }

  -- the node above is there
  pub plan_there : (old mid : Trie W) (q : Block) (index : Option ℕ) (above : Option (Link W)) (at : Option ℕ) → IsPlan old mid q index above at → IfSome above (λ link. IsSome (node_at mid.nodes.slots link.key))
  plan_there old mid q index above at plan =
      subst (λ (x : Option (Link W)). IfSome x (λ link. IsSome (node_at mid.nodes.slots link.key))) (sym plan.above_is) (go plan.path plan.before plan.is_trie plan.swap)
    where
      kept : (path : Path) (t after : Tree) → IsTrieOf (nodes_at old) old.root (plug path t) → IsSwap (nodes_at old) (nodes_at mid) t after → (k : ℕ) → 1 ≤ times_around k path → is_some (nodes_at mid k) ≡ true
      kept path t after is swap k h = let a = around (nodes_at old) path t is.once k h in ap is_some (swap.keeps k a.0 a.2) ∙ a.0

      go : (path : Path) (t : Tree) → IsTrieOf (nodes_at old) old.root (plug path t) → IsSwap (nodes_at old) (nodes_at mid) t plan.after → IfSome (link_of {W = W} path t) (λ link. IsSome (node_at mid.nodes.slots link.key))
      go Top t is swap = tt
      go (OnLeft key p i right up) t is swap = kept (OnLeft key p i right up) t plan.after is swap key (let e = one_same key in omega (arith, e))
      go (OnRight key p i left up) t is swap = kept (OnRight key p i left up) t plan.after is swap key (let e = one_same key in omega (arith, e))

  -- with the link set, the change is made
  pub plan_done : (old mid new : Trie W) (q : Block) (index : Option ℕ) (above : Option (Link W)) (at : Option ℕ) → IsPlan old mid q index above at → q.len ≤ W → DifferAtMost 2 (nodes_at old) (nodes_at mid) → old.nodes.spare ≤ mid.nodes.spare + 2 → new.nodes.spare ≡ mid.nodes.spare → IsLinkSet mid new above at → IsChange old new q index
  plan_done old mid new q index above at plan k few spare same set =
      let set' : IsLinkSet mid new (link_of plan.path plan.before) (key_of plan.after) = subst (λ (x : Option ℕ). IsLinkSet mid new (link_of plan.path plan.before) x) plan.at_is (subst (λ (x : Option (Link W)). IsLinkSet mid new x at) plan.above_is set) in
      let relinked = relinked_from mid new plan.path plan.before plan.after set' in
      let relinked' : IsRelinked (nodes_at mid) (nodes_at new) old.root new.root plan.path plan.after = subst (λ (x : Option ℕ). IsRelinked (nodes_at mid) (nodes_at new) x new.root plan.path plan.after) plan.rooted relinked in
      let is = replaced (nodes_at old) (nodes_at mid) (nodes_at new) old.root new.root plan.path plan.before plan.after plan.is_trie plan.swap plan.rewrite.trie plan.rewrite.fits relinked' in
      record {
        rows = changed_rows (nodes_at old) (nodes_at new) old.root new.root plan.path plan.before plan.after q index k plan.is_trie is plan.way plan.rewrite.rows;
        few = differ_more 2 1 (nodes_at old) (nodes_at mid) (nodes_at new) few (differ_link mid new above at set);
        spare = (let s = same in let r = spare in omega (arith, s, r));
      }

  -- the tree at a place has each key once
  once_here : (nodes : ℕ → Option (Node W)) (root : Option ℕ) (path : Path) (t : Tree) → IsTrieOf nodes root (plug path t) → (k : ℕ) → times k t ≤ 1
  once_here nodes root path t is k = let a = at_most_one (is_some (nodes k)) in let e = sym (times-plug k path t) ∙ is.once k in omega (arith, a, e)

  empty_here : (t : Tree) → None ≡ entry_of {W = W} t → t ≡ Empty
  empty_here Empty e = refl
  empty_here (Fork k p i l r) e = absurd (cc)

  -- the tree whose topmost node the code has read
  pub record IsForkHere (entry : Entry W) (t : Tree) : Type 0 where
    pub left : Tree
    pub right : Tree
    pub is : t ≡ Fork entry.key entry.node.prefix entry.node.index left right
    pub left_is : entry.node.left ≡ key_of left
    pub right_is : entry.node.right ≡ key_of right

  pub fork_here : (entry : Entry W) (t : Tree) → Some entry ≡ entry_of t → IsForkHere entry t
  fork_here entry Empty e = absurd (cc)
  fork_here entry (Fork k p i l r) e =
      let same : entry ≡ record { key = k; node = node_of p i l r } = cc in
      record {
        left = l;
        right = r;
        is = sym (ap (λ (x : Entry W). Fork x.key x.node.prefix x.node.index l r) same);
        left_is = ap (λ (x : Entry W). x.node.left) same;
        right_is = ap (λ (x : Entry W). x.node.right) same;
      }

  -- a leaf put where no node is
  pub leaf_plan : (old mid : Trie W) (q : Block) (index : ℕ) (spot : Spot W) (key : ℕ) → IsSpot (nodes_at old) old.root q spot → spot.here ≡ None → IsBlock W q → nodes_at old key ≡ None → Updates old.nodes.slots mid.nodes.slots key (Some (node_of q (Some index) Empty Empty)) → mid.root ≡ old.root
      → IsPlan old mid q (Some index) spot.parent (Some key)
  leaf_plan old mid q index spot key s none block vacant updates rooted =
      let e : s.here ≡ Empty = empty_here s.here (sym none ∙ s.here_is) in
      let is : IsTrieOf (nodes_at old) old.root (plug s.path Empty) = subst (λ (t : Tree). IsTrieOf (nodes_at old) old.root (plug s.path t)) e s.is_trie in
      record {
        path = s.path;
        before = Empty;
        after = Fork key q (Some index) Empty Empty;
        is_trie = is;
        way = s.way;
        swap = swap_above (nodes_at old) (nodes_at old) (nodes_at mid) Empty Empty Empty key q (Some index) (split_begins (nodes_at old) Empty tt) vacant (written old.nodes.slots mid.nodes.slots key _ updates);
        rewrite = rewrite_leaf W s.path key q index block s.way (trie_here W s.path Empty is.trie).1;
        above_is = s.parent_is ∙ ap (link_of s.path) e;
        at_is = refl;
        rooted = rooted;
      }

  -- the prefix's node put above the tree where the way ends
  pub over_plan : (old mid : Trie W) (q : Block) (index : ℕ) (spot : Spot W) (entry : Entry W) (key : ℕ) (b : Bool) → IsSpot (nodes_at old) old.root q spot → spot.here ≡ Some entry → IsBlock W q → q.len < entry.node.prefix.len → contains W q entry.node.prefix.base ≡ true → bit_of W q.len entry.node.prefix.base ≡ b
      → nodes_at old key ≡ None → Updates old.nodes.slots mid.nodes.slots key (Some (parted q (Some index) b (Some entry.key) None)) → mid.root ≡ old.root
      → IsPlan old mid q (Some index) spot.parent (Some key)
  over_plan old mid q index spot entry key true s here block shorter covered bit vacant updates rooted =
      let f = fork_here entry s.here (sym here ∙ s.here_is) in
      let t = Fork entry.key entry.node.prefix entry.node.index f.left f.right in
      let is : IsTrieOf (nodes_at old) old.root (plug s.path t) = subst (λ (x : Tree). IsTrieOf (nodes_at old) old.root (plug s.path x)) f.is s.is_trie in
      let at = trie_here W s.path t is.trie in
      let shown = (shows_here (nodes_at old) s.path t is.shows).0 in
      record {
        path = s.path;
        before = t;
        after = Fork key q (Some index) Empty t;
        is_trie = is;
        way = s.way;
        swap = swap_above (nodes_at old) (nodes_at old) (nodes_at mid) t Empty t key q (Some index) (split_swapped (nodes_at old) (nodes_at old) t t Empty (split_begins (nodes_at old) t shown)) vacant (written old.nodes.slots mid.nodes.slots key _ updates);
        rewrite = rewrite_right_below W s.path key q index t block s.way at.0 at.1 (record { longer = shorter; covered = covered; on_side = bit });
        above_is = s.parent_is ∙ ap (link_of s.path) f.is;
        at_is = refl;
        rooted = rooted;
      }
  over_plan old mid q index spot entry key false s here block shorter covered bit vacant updates rooted =
      let f = fork_here entry s.here (sym here ∙ s.here_is) in
      let t = Fork entry.key entry.node.prefix entry.node.index f.left f.right in
      let is : IsTrieOf (nodes_at old) old.root (plug s.path t) = subst (λ (x : Tree). IsTrieOf (nodes_at old) old.root (plug s.path x)) f.is s.is_trie in
      let at = trie_here W s.path t is.trie in
      let shown = (shows_here (nodes_at old) s.path t is.shows).0 in
      record {
        path = s.path;
        before = t;
        after = Fork key q (Some index) t Empty;
        is_trie = is;
        way = s.way;
        swap = swap_above (nodes_at old) (nodes_at old) (nodes_at mid) t t Empty key q (Some index) (split_begins (nodes_at old) t shown) vacant (written old.nodes.slots mid.nodes.slots key _ updates);
        rewrite = rewrite_left_below W s.path key q index t block s.way at.0 at.1 (record { longer = shorter; covered = covered; on_side = bit });
        above_is = s.parent_is ∙ ap (link_of s.path) f.is;
        at_is = refl;
        rooted = rooted;
      }

  -- a leaf put, and above it and the tree where the way ends the node of what their prefixes share
  pub beside_plan : (old first mid : Trie W) (q : Block) (index n : ℕ) (spot : Spot W) (entry : Entry W) (leaf key : ℕ) (b : Bool) → IsSpot (nodes_at old) old.root q spot → spot.here ≡ Some entry → IsBlock W q → IsCommonLen W entry.node.prefix q n → n < entry.node.prefix.len → n < q.len → bit_of W n q.base ≡ b
      → nodes_at old leaf ≡ None → Updates old.nodes.slots first.nodes.slots leaf (Some (node_of q (Some index) Empty Empty))
      → nodes_at first key ≡ None → Updates first.nodes.slots mid.nodes.slots key (Some (parted (masked_block W q.base n) None b (Some leaf) (Some entry.key))) → mid.root ≡ old.root
      → IsPlan old mid q (Some index) spot.parent (Some key)
  beside_plan old first mid q index n spot entry leaf key true s here block common hp hq bit vacant updates vacant' updates' rooted =
      let f = fork_here entry s.here (sym here ∙ s.here_is) in
      let p = entry.node.prefix in
      let i = entry.node.index in
      let t = Fork entry.key p i f.left f.right in
      let is : IsTrieOf (nodes_at old) old.root (plug s.path t) = subst (λ (x : Tree). IsTrieOf (nodes_at old) old.root (plug s.path x)) f.is s.is_trie in
      let at = trie_here W s.path t is.trie in
      let shown = (shows_here (nodes_at old) s.path t is.shows).0 in
      let new_leaf = Fork leaf q (Some index) Empty Empty in
      let split = split_leaf (nodes_at old) (nodes_at first) t leaf q (Some index) shown vacant (written old.nodes.slots first.nodes.slots leaf _ updates) in
      record {
        path = s.path;
        before = t;
        after = Fork key (masked_block W q.base n) None t new_leaf;
        is_trie = is;
        way = s.way;
        swap = swap_above (nodes_at old) (nodes_at first) (nodes_at mid) t t new_leaf key (masked_block W q.base n) None split vacant' (written first.nodes.slots mid.nodes.slots key _ updates');
        rewrite = rewrite_fork_right W s.path key leaf entry.key p q i index f.left f.right n block s.way at.0 at.1 common hp hq bit;
        above_is = s.parent_is ∙ ap (link_of s.path) f.is;
        at_is = refl;
        rooted = rooted;
      }
  beside_plan old first mid q index n spot entry leaf key false s here block common hp hq bit vacant updates vacant' updates' rooted =
      let f = fork_here entry s.here (sym here ∙ s.here_is) in
      let p = entry.node.prefix in
      let i = entry.node.index in
      let t = Fork entry.key p i f.left f.right in
      let is : IsTrieOf (nodes_at old) old.root (plug s.path t) = subst (λ (x : Tree). IsTrieOf (nodes_at old) old.root (plug s.path x)) f.is s.is_trie in
      let at = trie_here W s.path t is.trie in
      let shown = (shows_here (nodes_at old) s.path t is.shows).0 in
      let new_leaf = Fork leaf q (Some index) Empty Empty in
      let split = split_leaf (nodes_at old) (nodes_at first) t leaf q (Some index) shown vacant (written old.nodes.slots first.nodes.slots leaf _ updates) in
      record {
        path = s.path;
        before = t;
        after = Fork key (masked_block W q.base n) None new_leaf t;
        is_trie = is;
        way = s.way;
        swap = swap_above (nodes_at old) (nodes_at first) (nodes_at mid) t new_leaf t key (masked_block W q.base n) None (split_swapped (nodes_at old) (nodes_at first) t t new_leaf split) vacant' (written first.nodes.slots mid.nodes.slots key _ updates');
        rewrite = rewrite_fork_left W s.path key leaf entry.key p q i index f.left f.right n block s.way at.0 at.1 common hp hq bit;
        above_is = s.parent_is ∙ ap (link_of s.path) f.is;
        at_is = refl;
        rooted = rooted;
      }

  -- the prefix's node taken out, and its only child, if it has one, put in its place
  pub splice_plan : (old mid : Trie W) (spot : Spot W) (entry : Entry W) (at : Option ℕ) → IsSpot (nodes_at old) old.root entry.node.prefix spot → spot.here ≡ Some entry → at ≡ option_or entry.node.left entry.node.right → (entry.node.left ≡ None) ⊎ (entry.node.right ≡ None) → IsSome at ⊎ IsFreeAbove spot.parent
      → Updates old.nodes.slots mid.nodes.slots entry.key None → mid.root ≡ old.root → IsPlan old mid entry.node.prefix None spot.parent at
  splice_plan old mid spot entry at s here child lone free updates rooted =
      let f = fork_here entry s.here (sym here ∙ s.here_is) in
      let q = entry.node.prefix in
      let t = Fork entry.key q entry.node.index f.left f.right in
      let is : IsTrieOf (nodes_at old) old.root (plug s.path t) = subst (λ (x : Tree). IsTrieOf (nodes_at old) old.root (plug s.path x)) f.is s.is_trie in
      let now = trie_here W s.path t is.trie in
      let shown = (shows_here (nodes_at old) s.path t is.shows).0 in
      let above : spot.parent ≡ link_of s.path t = s.parent_is ∙ ap (link_of s.path) f.is in
      let key : at ≡ key_of (only f.left f.right) = child ∙ ap (λ x. option_or x entry.node.right) f.left_is ∙ ap (λ x. option_or (key_of f.left) x) f.right_is ∙ only_key f.left f.right in
      let lone' : (f.left ≡ Empty) ⊎ (f.right ≡ Empty) = elim lone [ inl e ↦ inl (none_key f.left (sym f.left_is ∙ e)) | inr e ↦ inr (none_key f.right (sym f.right_is ∙ e)) ] in
      let free' : IsFork (only f.left f.right) ⊎ IsFree s.path = elim free [ inl some ↦ inl (fork_from_key (only f.left f.right) (subst (λ (x : Option ℕ). IsSome x) key some)) | inr up ↦ inr (free_path W s.path t (subst (λ (x : Option (Link W)). IsFreeAbove x) above up)) ] in
      record {
        path = s.path;
        before = t;
        after = only f.left f.right;
        is_trie = is;
        way = s.way;
        swap = swap_only (nodes_at old) (nodes_at mid) entry.key q entry.node.index f.left f.right (once_here (nodes_at old) old.root s.path t is) shown lone' (written old.nodes.slots mid.nodes.slots entry.key None updates);
        rewrite = rewrite_only W s.path entry.key q entry.node.index f.left f.right now.0 now.1 lone' free';
        above_is = above;
        at_is = key;
        rooted = rooted;
      }

  -- a leaf and the node above it taken out, which has no index, and the other child put in its place
  prune_at : (old first mid : Trie W) (spot : Spot W) (key : ℕ) (q : Block) (index : Option ℕ) (link : Link W) (path : Path) → IsTrieOf (nodes_at old) old.root (plug path (Fork key q index Empty Empty)) → IsOnWay W q path → Some link ≡ link_of path (Fork key q index Empty Empty) → spot.grand ≡ grand_of path (Fork key q index Empty Empty) → link.node.index ≡ None
      → Updates old.nodes.slots first.nodes.slots key None → Updates first.nodes.slots mid.nodes.slots link.key None → mid.root ≡ old.root → IsPlan old mid q None spot.grand (sibling link)
  prune_at old first mid spot key q index link Top is way above grand none updates updates' rooted = absurd (cc)
  prune_at old first mid spot key q index link (OnLeft k p i other up) is way above grand none updates updates' rooted =
      let leaf = Fork key q index Empty Empty in
      let e : link ≡ record { key = k; node = node_of p i leaf other; right = false } = cc in
      let bare : i ≡ None = sym (ap (λ (x : Link W). x.node.index) e) ∙ none in
      let t = Fork k p None leaf other in
      let is' : IsTrieOf (nodes_at old) old.root (plug up t) = subst (λ (x : Option ℕ). IsTrieOf (nodes_at old) old.root (plug up (Fork k p x leaf other))) bare is in
      let now = trie_here W up t is'.trie in
      let shown = (shows_here (nodes_at old) up t is'.shows).0 in
      let second : Updates first.nodes.slots mid.nodes.slots k None = subst (λ (x : ℕ). Updates first.nodes.slots mid.nodes.slots x None) (ap (λ (x : Link W). x.key) e) updates' in
      record {
        path = up;
        before = t;
        after = other;
        is_trie = is';
        way = way.1;
        swap = swap_pruned (nodes_at old) (nodes_at first) (nodes_at mid) key k t other (once_here (nodes_at old) old.root up t is') shown.2 (ap is_some shown.1.0) (ap is_some shown.0) (λ j. omega arith) (written old.nodes.slots first.nodes.slots key None updates) (written first.nodes.slots mid.nodes.slots k None second);
        rewrite = rewrite_prune_left W up k key p q index other now.0 now.1;
        above_is = grand ∙ ap (λ x. link_of up (Fork k p x leaf other)) bare;
        at_is = ap sibling e;
        rooted = rooted;
      }
  prune_at old first mid spot key q index link (OnRight k p i other up) is way above grand none updates updates' rooted =
      let leaf = Fork key q index Empty Empty in
      let e : link ≡ record { key = k; node = node_of p i other leaf; right = true } = cc in
      let bare : i ≡ None = sym (ap (λ (x : Link W). x.node.index) e) ∙ none in
      let t = Fork k p None other leaf in
      let is' : IsTrieOf (nodes_at old) old.root (plug up t) = subst (λ (x : Option ℕ). IsTrieOf (nodes_at old) old.root (plug up (Fork k p x other leaf))) bare is in
      let now = trie_here W up t is'.trie in
      let shown = (shows_here (nodes_at old) up t is'.shows).0 in
      let second : Updates first.nodes.slots mid.nodes.slots k None = subst (λ (x : ℕ). Updates first.nodes.slots mid.nodes.slots x None) (ap (λ (x : Link W). x.key) e) updates' in
      record {
        path = up;
        before = t;
        after = other;
        is_trie = is';
        way = way.1;
        swap = swap_pruned (nodes_at old) (nodes_at first) (nodes_at mid) key k t other (once_here (nodes_at old) old.root up t is') shown.1 (ap is_some shown.2.0) (ap is_some shown.0) (λ j. omega arith) (written old.nodes.slots first.nodes.slots key None updates) (written first.nodes.slots mid.nodes.slots k None second);
        rewrite = rewrite_prune_right W up k key p q index other now.0 now.1;
        above_is = grand ∙ ap (λ x. link_of up (Fork k p x other leaf)) bare;
        at_is = ap sibling e;
        rooted = rooted;
      }

  pub prune_plan : (old first mid : Trie W) (spot : Spot W) (entry : Entry W) (link : Link W) → IsSpot (nodes_at old) old.root entry.node.prefix spot → spot.here ≡ Some entry → spot.parent ≡ Some link → link.node.index ≡ None → entry.node.left ≡ None → entry.node.right ≡ None
      → Updates old.nodes.slots first.nodes.slots entry.key None → Updates first.nodes.slots mid.nodes.slots link.key None → mid.root ≡ old.root → IsPlan old mid entry.node.prefix None spot.grand (sibling link)
  prune_plan old first mid spot entry link s here above none no_left no_right updates updates' rooted =
      let f = fork_here entry s.here (sym here ∙ s.here_is) in
      let q = entry.node.prefix in
      let e : s.here ≡ Fork entry.key q entry.node.index Empty Empty = f.is ∙ ap (λ x. Fork entry.key q entry.node.index x f.right) (none_key f.left (sym f.left_is ∙ no_left)) ∙ ap (λ x. Fork entry.key q entry.node.index Empty x) (none_key f.right (sym f.right_is ∙ no_right)) in
      prune_at old first mid spot entry.key q entry.node.index link s.path
      (subst (λ (x : Tree). IsTrieOf (nodes_at old) old.root (plug s.path x)) e s.is_trie) s.way (sym above ∙ s.parent_is ∙ ap (link_of s.path) e) (s.grand_is ∙ ap (grand_of s.path) e) none updates updates' rooted

  -- the node above the leaf is there still, with the leaf out
  pub prune_there : (old first : Trie W) (spot : Spot W) (entry : Entry W) (link : Link W) → IsSpot (nodes_at old) old.root entry.node.prefix spot → spot.here ≡ Some entry → spot.parent ≡ Some link → Updates old.nodes.slots first.nodes.slots entry.key None → IsSome (nodes_at first link.key)
  prune_there old first spot entry link s here above updates =
      let f = fork_here entry s.here (sym here ∙ s.here_is) in
      go s.path s.here s.is_trie (sym above ∙ s.parent_is) (let same = one_same entry.key in let sum = ap (times entry.key) f.is in omega (arith, same, sum))
    where
      kept : (path : Path) (t : Tree) → IsTrieOf (nodes_at old) old.root (plug path t) → (k : ℕ) → 1 ≤ times_around k path → 1 ≤ times entry.key t → IsSome (nodes_at first k)
      kept path t is k h there =
          let a = around (nodes_at old) path t is.once k h in
          let out : k ≢ entry.key = λ e. (let z = ap (λ j. times j t) (sym e) ∙ a.2 in omega (arith, z, there)) in
          ap is_some (updates.others k out) ∙ a.0

      go : (path : Path) (t : Tree) → IsTrieOf (nodes_at old) old.root (plug path t) → Some link ≡ link_of {W = W} path t → 1 ≤ times entry.key t → IsSome (nodes_at first link.key)
      go Top t is e there = absurd (cc)
      go (OnLeft k p i right up) t is e there =
          let keys : link.key ≡ k = cc in
          subst (λ (x : ℕ). IsSome (nodes_at first x)) (sym keys) (kept (OnLeft k p i right up) t is k (let o = one_same k in omega (arith, o)) there)
      go (OnRight k p i left up) t is e there =
          let keys : link.key ≡ k = cc in
          subst (λ (x : ℕ). IsSome (nodes_at first x)) (sym keys) (kept (OnRight k p i left up) t is k (let o = one_same k in omega (arith, o)) there)

  -- the node where the way ends is there
  pub entry_there : (old : Trie W) (q : Block) (spot : Spot W) (entry : Entry W) → IsSpot (nodes_at old) old.root q spot → spot.here ≡ Some entry → IsSome (nodes_at old entry.key)
  entry_there old q spot entry s here =
      let f = fork_here entry s.here (sym here ∙ s.here_is) in
      let shown : Shows (nodes_at old) (Fork entry.key entry.node.prefix entry.node.index f.left f.right) = subst (λ (x : Tree). Shows (nodes_at old) x) f.is (shows_here (nodes_at old) s.path s.here s.is_trie.shows).0 in
      ap is_some shown.0

  -- and its prefix is one of W bits
  pub entry_block : (old : Trie W) (q : Block) (spot : Spot W) (entry : Entry W) → IsSpot (nodes_at old) old.root q spot → spot.here ≡ Some entry → IsBlock W entry.node.prefix × EndsAt W q (Fork entry.key entry.node.prefix entry.node.index Empty Empty)
  entry_block old q spot entry s here =
      let f = fork_here entry s.here (sym here ∙ s.here_is) in
      let trie : IsTrie W (Fork entry.key entry.node.prefix entry.node.index f.left f.right) = subst (λ (x : Tree). IsTrie W x) f.is (trie_here W s.path s.here s.is_trie.trie).0 in
      let ends : EndsAt W q (Fork entry.key entry.node.prefix entry.node.index f.left f.right) = subst (λ (x : Tree). EndsAt W q x) f.is s.ends in
      (trie.0, ends)

  relinked_same : (old mid : ℕ → Option (Node W)) (root : Option ℕ) (path : Path) (t after : Tree) → IsTrieOf old root (plug path t) → IsSwap old mid t after → key_of t ≡ key_of after → IsRelinked mid mid root root path after
  relinked_same old mid root Top t after is swap e = (is.rooted ∙ e, λ k. refl)
  relinked_same old mid root (OnLeft key p i right up) t after is swap e =
      let a = around old (OnLeft key p i right up) t is.once key (let o = one_same key in omega (arith, o)) in
      (refl, swap.keeps key a.0 a.2 ∙ (shows_here old (OnLeft key p i right up) t is.shows).1 ∙ ap (λ x. Some (record { prefix = p; index = i; left = x; right = key_of right })) e, λ k n. refl)
  relinked_same old mid root (OnRight key p i left up) t after is swap e =
      let a = around old (OnRight key p i left up) t is.once key (let o = one_same key in omega (arith, o)) in
      (refl, swap.keeps key a.0 a.2 ∙ (shows_here old (OnRight key p i left up) t is.shows).1 ∙ ap (λ x. Some (record { prefix = p; index = i; left = key_of left; right = x })) e, λ k n. refl)

  -- the prefix's node has another index
  pub index_done : (old new : Trie W) (spot : Spot W) (entry : Entry W) (now : Option ℕ) → IsSpot (nodes_at old) old.root entry.node.prefix spot → spot.here ≡ Some entry → IsSome now ⊎ (IsSome entry.node.left × IsSome entry.node.right)
      → Updates old.nodes.slots new.nodes.slots entry.key (Some (record { prefix = entry.node.prefix; index = now; left = entry.node.left; right = entry.node.right })) → new.root ≡ old.root → new.nodes.spare ≡ old.nodes.spare → IsChange old new entry.node.prefix now
  index_done old new spot entry now s here keeps updates rooted spare =
      let f = fork_here entry s.here (sym here ∙ s.here_is) in
      let q = entry.node.prefix in
      let t = Fork entry.key q entry.node.index f.left f.right in
      let after = Fork entry.key q now f.left f.right in
      let is : IsTrieOf (nodes_at old) old.root (plug s.path t) = subst (λ (x : Tree). IsTrieOf (nodes_at old) old.root (plug s.path x)) f.is s.is_trie in
      let at = trie_here W s.path t is.trie in
      let shown = (shows_here (nodes_at old) s.path t is.shows).0 in
      let both : IsSome now ⊎ (IsSome (key_of f.left) × IsSome (key_of f.right)) = elim keeps [ inl some ↦ inl some | inr two ↦ inr (sym (ap is_some f.left_is) ∙ two.0, sym (ap is_some f.right_is) ∙ two.1) ] in
      let node : record { prefix = q; index = now; left = entry.node.left; right = entry.node.right } ≡ node_of {W = W} q now f.left f.right = (λ i. record { prefix = q; index = now; left = f.left_is i; right = f.right_is i }) in
      let write : IsWrite (nodes_at old) (nodes_at new) entry.key (Some (node_of q now f.left f.right)) = subst (λ (x : Node W). IsWrite (nodes_at old) (nodes_at new) entry.key (Some x)) node (written old.nodes.slots new.nodes.slots entry.key _ updates) in
      let swap = swap_index (nodes_at old) (nodes_at new) entry.key q entry.node.index now f.left f.right (once_here (nodes_at old) old.root s.path t is) shown write in
      let rewrite = rewrite_index W s.path entry.key q entry.node.index now f.left f.right at.0 at.1 (justified_now now f.left f.right both) in
      let same = relinked_same (nodes_at old) (nodes_at new) old.root s.path t after is swap refl in
      let result : IsTrieOf (nodes_at new) old.root (plug s.path after) = replaced (nodes_at old) (nodes_at new) (nodes_at new) old.root old.root s.path t after is swap rewrite.trie rewrite.fits same in
      let result' : IsTrieOf (nodes_at new) new.root (plug s.path after) = subst (λ (x : Option ℕ). IsTrieOf (nodes_at new) x (plug s.path after)) (sym rooted) result in
      record {
        rows = changed_rows (nodes_at old) (nodes_at new) old.root new.root s.path t after q now at.0.0.2 is result' s.way rewrite.rows;
        few = differ_weaker 1 3 (nodes_at old) (nodes_at new) (omega arith) (differ_write old.nodes.slots new.nodes.slots entry.key _ updates);
        spare = (let e = spare in omega (arith, e));
      }

  -- the prefix has no node, and none is to go
  pub absent_done : (old : Trie W) (q : Block) (spot : Spot W) → IsBlock W q → IsSpot (nodes_at old) old.root q spot → ((entry : Entry W) → spot.here ≡ Some entry → entry.node.prefix ≢ q) → IsChange old old q None
  absent_done old q spot block s differ =
      let trie = (trie_here W s.path s.here s.is_trie.trie).0 in
      let none = rewrite_absent W q s.here trie s.ends (λ k p i l r e same. differ (record { key = k; node = node_of p i l r }) (s.here_is ∙ ap entry_of e) same) in
      record {
        rows = changed_rows (nodes_at old) (nodes_at old) old.root old.root s.path s.here s.here q None block.2 s.is_trie s.is_trie s.way (sym none);
        few = differ_weaker 0 3 (nodes_at old) (nodes_at old) (omega arith) (differ_none (nodes_at old));
        spare = omega arith;
      }

  -- another prefix where the way ends shares fewer bits than it has
  pub beside_facts : (old : Trie W) (q : Block) (spot : Spot W) (entry : Entry W) (n : ℕ) → IsSpot (nodes_at old) old.root q spot → spot.here ≡ Some entry → IsBlock W q → IsCommonLen W entry.node.prefix q n → entry.node.prefix ≢ q → n < entry.node.prefix.len
  beside_facts old q spot entry n s here block common differ =
      let facts = entry_block old q spot entry s here in
      shares_less W entry.node.prefix q n facts.0 block common facts.1 differ

  -- and where it shares all bits of q, q covers it
  pub over_facts : (old : Trie W) (q : Block) (spot : Spot W) (entry : Entry W) (n : ℕ) → IsSpot (nodes_at old) old.root q spot → spot.here ≡ Some entry → IsBlock W q → IsCommonLen W entry.node.prefix q n → entry.node.prefix ≢ q → n ≡ q.len → (q.len < entry.node.prefix.len) × (contains W q entry.node.prefix.base ≡ true)
  over_facts old q spot entry n s here block common differ e =
      let less = beside_facts old q spot entry n s here block common differ in
      let p = entry.node.prefix in
      (omega (arith, less, e), eq-eqb _ _ (ap (λ m. head_of W m p.base) (sym e) ∙ common.agree ∙ ap (λ m. head_of W m q.base) e))
