-- Another tree at a place, with the node above linked to it: the whole is a trie again, with that change of its rows.
use Rattle.std.proofs.Common.{◌≡◌, ◌≢◌, ◌==◌, ◌⊎◌, ℕ, ◌+◌, ◌≤◌, Bool, true, false, ◌++◌, Option, Some, refl, sym, ap, ◌∙◌, arith, inl, inr}
use Rattle.std.specs.Prelude.{is_some}
use Rattle.std.proofs.lemmas.Bool.{cases_eq}
use Rattle.prefix_width.specs.Prefix.{Block}
use Rattle.module_trait.specs.View.{with_row}
use Rattle.radix_lockless.specs.declared.node.Node.{Node}
use Rattle.radix_lockless.specs.Trie.{Tree, IsTrie, IsTrieOf, Shows, key_of, node_of, one_if, rows_of, times}
use Rattle.radix_lockless.specs.Trie.Tree.{Fork}
use Rattle.radix_lockless.specs.Path.{Path, IsOnWay, plug, times_around}
use Rattle.radix_lockless.specs.Path.Path.{Top, OnLeft, OnRight}
use Rattle.radix_lockless.proofs.TreeLemmas.{one_same, shows_frame}
use Rattle.radix_lockless.proofs.PutLemmas.{set_between}
use Rattle.radix_lockless.proofs.PathLemmas.{Fits, IsLinked, back_after, back_of, front_before, front_of, rows-plug, shows_put, times-plug, times_beyond, trie_put}

pub at_most_one : (b : Bool) → one_if b ≤ 1
at_most_one true = omega arith
at_most_one false = omega arith

pub some_from_one : (b : Bool) → 1 ≤ one_if b → b ≡ true
some_from_one true h = refl
some_from_one false h = absurd (omega arith)

key_plug : (path : Path) (t u : Tree) → key_of t ≡ key_of u → key_of (plug path t) ≡ key_of (plug path u)
key_plug Top t u e = e
key_plug (OnLeft key p index right up) t u e = key_plug up (Fork key p index t right) (Fork key p index u right) refl
key_plug (OnRight key p index left up) t u e = key_plug up (Fork key p index left t) (Fork key p index left u) refl

-- the key above
abbrev IsAbove : ℕ → Path → Type 0
IsAbove k Top = ⊥
IsAbove k (OnLeft key p index right up) = k ≡ key
IsAbove k (OnRight key p index left up) = k ≡ key

above_around : (k : ℕ) (path : Path) → IsAbove k path → (times_around k path ≡ times_beyond k path + 1)
above_around k Top h = absurd h
above_around k (OnLeft key p index right up) h = let e = ap (λ n. one_if (k == n)) (sym h) ∙ one_same k in omega (arith, e)
above_around k (OnRight key p index left up) h = let e = ap (λ n. one_if (k == n)) (sym h) ∙ one_same k in omega (arith, e)

beyond_around : (k : ℕ) (path : Path) → times_beyond k path ≤ times_around k path
beyond_around k Top = omega arith
beyond_around k (OnLeft key p index right up) = omega arith
beyond_around k (OnRight key p index left up) = omega arith

cases_above : (k : ℕ) (path : Path) → IsAbove k path ⊎ (IsAbove k path → ⊥)
cases_above k Top = inr (λ h. h)
cases_above k (OnLeft key p index right up) = cases_eq k key
cases_above k (OnRight key p index left up) = cases_eq k key

module _ {W : ℕ} where
  -- nodes that show another tree in place of one, and are as before at every other key that had one
  pub record IsSwap (old mid : ℕ → Option (Node W)) (t after : Tree) : Type 0 where
    pub shows : Shows mid after
    pub keeps : (k : ℕ) → is_some (old k) ≡ true → times k t ≡ 0 → mid k ≡ old k
    pub counts : (k : ℕ) → times k after + one_if (is_some (old k)) ≡ times k t + one_if (is_some (mid k))

  -- the node above is linked to this tree, and all others are as they were
  abbrev pub IsRelinked : (mid new : ℕ → Option (Node W)) → (root now : Option ℕ) → Path → Tree → Type 0
  IsRelinked mid new root now Top after = (now ≡ key_of after) × ((k : ℕ) → new k ≡ mid k)
  IsRelinked mid new root now (OnLeft key p index right up) after = (now ≡ root) × (new key ≡ Some (node_of p index after right)) × ((k : ℕ) → k ≢ key → new k ≡ mid k)
  IsRelinked mid new root now (OnRight key p index left up) after = (now ≡ root) × (new key ≡ Some (node_of p index left after)) × ((k : ℕ) → k ≢ key → new k ≡ mid k)

  -- a key around a place has a node, is around it once, and isn't in the tree there
  pub around : (old : ℕ → Option (Node W)) (path : Path) (t : Tree) → ((k : ℕ) → times k (plug path t) ≡ one_if (is_some (old k))) → (k : ℕ) → 1 ≤ times_around k path → (is_some (old k) ≡ true) × (times_around k path ≡ 1) × (times k t ≡ 0)
  around old path t once k h =
      let sum = sym (times-plug k path t) ∙ once k in
      let most = at_most_one (is_some (old k)) in
      (some_from_one _ (omega (arith, sum, h)), omega (arith, sum, h, most), omega (arith, sum, h, most))

  others_stay : (mid new : ℕ → Option (Node W)) (root now : Option ℕ) (path : Path) (after : Tree) → IsRelinked mid new root now path after → (k : ℕ) → (IsAbove k path → ⊥) → new k ≡ mid k
  others_stay mid new root now Top after relinked k out = relinked.1 k
  others_stay mid new root now (OnLeft key p index right up) after relinked k out = relinked.2 k out
  others_stay mid new root now (OnRight key p index left up) after relinked k out = relinked.2 k out

  above_some : (mid new : ℕ → Option (Node W)) (root now : Option ℕ) (path : Path) (after : Tree) → IsRelinked mid new root now path after → (k : ℕ) → IsAbove k path → is_some (new k) ≡ true
  above_some mid new root now Top after relinked k h = absurd h
  above_some mid new root now (OnLeft key p index right up) after relinked k h = ap (λ j. is_some (new j)) h ∙ ap is_some relinked.1
  above_some mid new root now (OnRight key p index left up) after relinked k h = ap (λ j. is_some (new j)) h ∙ ap is_some relinked.1

  linked_now : (mid new : ℕ → Option (Node W)) (root now : Option ℕ) (path : Path) (after : Tree) → IsRelinked mid new root now path after → IsLinked new path after
  linked_now mid new root now Top after relinked = tt
  linked_now mid new root now (OnLeft key p index right up) after relinked = relinked.1
  linked_now mid new root now (OnRight key p index left up) after relinked = relinked.1

  rooted_now : (mid new : ℕ → Option (Node W)) (root now : Option ℕ) (path : Path) (t after : Tree) → root ≡ key_of (plug path t) → IsRelinked mid new root now path after → now ≡ key_of (plug path after)
  rooted_now mid new root now Top t after rooted relinked = relinked.0
  rooted_now mid new root now (OnLeft key p index right up) t after rooted relinked = relinked.0 ∙ rooted ∙ key_plug up (Fork key p index t right) (Fork key p index after right) refl
  rooted_now mid new root now (OnRight key p index left up) t after rooted relinked = relinked.0 ∙ rooted ∙ key_plug up (Fork key p index left t) (Fork key p index left after) refl

  -- the whole with the tree replaced
  pub replaced : (old mid new : ℕ → Option (Node W)) (root now : Option ℕ) (path : Path) (t after : Tree)
      → IsTrieOf old root (plug path t) → IsSwap old mid t after → IsTrie W after → Fits W path after → IsRelinked mid new root now path after → IsTrieOf new now (plug path after)
  replaced old mid new root now path t after trie swap now_trie fits relinked =
      let near = around old path t trie.once in
      let not_after : (k : ℕ) → 1 ≤ times k after → IsAbove k path → ⊥ = λ k h above. (
      let a = near k (let e = above_around k path above in omega (arith, e)) in
      let e = swap.counts k in
      let o : one_if (is_some (old k)) ≡ 1 = ap one_if a.0 in
      let m : one_if (is_some (mid k)) ≡ 1 = ap (λ x. one_if (is_some x)) (swap.keeps k a.0 a.2) ∙ o in
      let z = a.2 in
      omega (arith, e, o, m, z, h)) in
      let not_beyond : (k : ℕ) → 1 ≤ times_beyond k path → IsAbove k path → ⊥ = λ k h above. (
      let e = above_around k path above in
      let a = (near k (omega (arith, e))).1 in
      omega (arith, e, a, h)) in
      let same_there : (k : ℕ) → one_if (is_some (new k)) ≡ one_if (is_some (mid k)) = λ k. elim (cases_above k path) [
        | inl above ↦ (
            let a = near k (let e = above_around k path above in omega (arith, e)) in
            ap one_if (above_some mid new root now path after relinked k above ∙ sym a.0 ∙ ap is_some (sym (swap.keeps k a.0 a.2))))
        | inr other ↦ ap (λ x. one_if (is_some x)) (others_stay mid new root now path after relinked k other)
      ] in
      record {
        rooted = rooted_now mid new root now path t after trie.rooted relinked;
        shows = shows_put old new path t after trie.shows
            (shows_frame mid new after (λ k h. others_stay mid new root now path after relinked k (not_after k h)) swap.shows)
            (linked_now mid new root now path after relinked)
            (λ k h.
            let a = near k (let b = beyond_around k path in omega (arith, b, h)) in
            others_stay mid new root now path after relinked k (not_beyond k h) ∙ swap.keeps k a.0 a.2);
        trie = trie_put W path t after trie.trie now_trie fits;
        once = λ k. times-plug k path after ∙ (
            let before = sym (times-plug k path t) ∙ trie.once k in
            let e = swap.counts k in
            let s = same_there k in
            omega (arith, before, e, s));
      }

-- and its rows
pub rows_replaced : (w : ℕ) (path : Path) (t after : Tree) (q : Block) (index : Option ℕ) → q.len ≤ w → IsTrie w (plug path t) → IsOnWay w q path → rows_of after ≡ with_row (rows_of t) q index → rows_of (plug path after) ≡ with_row (rows_of (plug path t)) q index
rows_replaced w path t after q index k trie way rows =
    rows-plug path after
    ∙ ap (λ xs. front_of path ++ (xs ++ back_of path)) rows
    ∙ sym (set_between (front_of path) (rows_of t) (back_of path) q index (front_before w q path t trie way) (back_after w q path t k trie way))
    ∙ ap (λ xs. with_row xs q index) (sym (rows-plug path t))
