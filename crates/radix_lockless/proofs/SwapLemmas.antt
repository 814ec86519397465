-- What the writes of a change leave: another tree in place of one.
use Rattle.std.proofs.Common.{◌≡◌, ◌≢◌, ◌==◌, ◌⊎◌, ℕ, zero, suc, ◌+◌, ◌≤◌, true, Option, Some, None, refl, sym, ap, ◌∙◌, arith, inl, inr}
use Rattle.std.specs.Prelude.{is_some}
use Rattle.std.proofs.lemmas.Bool.{cases_eq}
use Rattle.std.proofs.lemmas.Bool.Decides.{eqb_tells}
use Rattle.prefix_width.specs.Prefix.{Block}
use Rattle.radix_lockless.specs.declared.node.Node.{Node}
use Rattle.radix_lockless.specs.Trie.{Tree, Shows, key_of, node_of, one_if, times}
use Rattle.radix_lockless.specs.Trie.Tree.{Empty, Fork}
use Rattle.radix_lockless.proofs.TreeLemmas.{one_same, shows_frame}
use Rattle.radix_lockless.proofs.ReplaceLemmas.{IsSwap}

one_other : (k j : ℕ) → k ≢ j → one_if (k == j) ≡ 0
one_other k j h = elim (eqb_tells k j) [ inl e ↦ absurd (h e.1) | inr n ↦ ap one_if n.0 ]

-- the only child
abbrev pub only : Tree → Tree → Tree
only Empty right = right
only (Fork key p index l r) right = Fork key p index l r

module _ {W : ℕ} where
  -- one key has this now, and every other key has what it had
  pub record IsWrite (old new : ℕ → Option (Node W)) (key : ℕ) (slot : Option (Node W)) : Type 0 where
    pub changed : new key ≡ slot
    pub others : (k : ℕ) → k ≢ key → new k ≡ old k

  -- a key of a tree that is shown has a node
  shown_some : (nodes : ℕ → Option (Node W)) (t : Tree) (k : ℕ) → Shows nodes t → 1 ≤ times k t → is_some (nodes k) ≡ true
  shown_some nodes Empty k shows h = absurd (omega (arith, h))
  shown_some nodes (Fork key p index left right) k shows h = elim (cases_eq k key) [
    | inl e ↦ ap (λ j. is_some (nodes j)) e ∙ ap is_some shows.0
    | inr n ↦ elim (some_side (times k left) (times k right) (let o = one_other k key n in omega (arith, o, h))) [
      | inl l ↦ shown_some nodes left k shows.1 l
      | inr r ↦ shown_some nodes right k shows.2 r
    ]
  ]
    where
      some_side : (a b : ℕ) → 1 ≤ a + b → (1 ≤ a) ⊎ (1 ≤ b)
      some_side zero b h = inr (omega (arith, h))
      some_side (suc a) b h = inl (omega arith)

  -- so a vacant key isn't in it
  vacant_out : (nodes : ℕ → Option (Node W)) (t : Tree) (k j : ℕ) → nodes j ≡ None → Shows nodes t → 1 ≤ times k t → k ≢ j
  vacant_out nodes t k j vacant shows h e = let s = sym (ap is_some (ap nodes e ∙ vacant)) ∙ shown_some nodes t k shows h in absurd (cc)

  -- a write keeps the tree where the key isn't in it
  shows_write : (old new : ℕ → Option (Node W)) (key : ℕ) (slot : Option (Node W)) (t : Tree) → IsWrite old new key slot → times key t ≡ 0 → Shows old t → Shows new t
  shows_write old new key slot t write out shows =
      shows_frame old new t (λ k h. write.others k (λ e. absurd (let z = ap (λ j. times j t) e ∙ out in omega (arith, z, h)))) shows

  -- another index at the topmost node
  pub swap_index : (old new : ℕ → Option (Node W)) (key : ℕ) (p : Block) (index now : Option ℕ) (left right : Tree) → ((k : ℕ) → times k (Fork key p index left right) ≤ 1) → Shows old (Fork key p index left right)
      → IsWrite old new key (Some (node_of p now left right)) → IsSwap old new (Fork key p index left right) (Fork key p now left right)
  swap_index old new key p index now left right once shows write =
      let once_here = once key in
      let same = one_same key in
      record {
        shows = (
          write.changed,
          shows_write old new key _ left write (omega (arith, once_here, same)) shows.1,
          shows_write old new key _ right write (omega (arith, once_here, same)) shows.2,
        );
        keeps = λ k some out. write.others k (λ e. absurd (let s = ap (λ j. one_if (k == j)) (sym e) ∙ one_same k in omega (arith, s, out)));
        counts = λ k. elim (cases_eq k key) [
          | inl e ↦ ap (λ o. times k (Fork key p index left right) + one_if (is_some o)) (ap old e ∙ shows.0) ∙ sym (ap (λ o. times k (Fork key p index left right) + one_if (is_some o)) (ap new e ∙ write.changed))
          | inr n ↦ ap (λ o. times k (Fork key p index left right) + one_if (is_some o)) (sym (write.others k n))
        ];
      }

  -- nodes that show two trees in place of one
  pub record IsSplit (old mid : ℕ → Option (Node W)) (t left right : Tree) : Type 0 where
    pub shows_left : Shows mid left
    pub shows_right : Shows mid right
    pub keeps : (k : ℕ) → is_some (old k) ≡ true → mid k ≡ old k
    pub counts : (k : ℕ) → (times k left + times k right) + one_if (is_some (old k)) ≡ times k t + one_if (is_some (mid k))

  -- before any write
  pub split_begins : (old : ℕ → Option (Node W)) (t : Tree) → Shows old t → IsSplit old old t t Empty
  split_begins old t shows = record { shows_left = shows; shows_right = tt; keeps = λ k some. refl; counts = λ k. omega arith }

  pub split_swapped : (old mid : ℕ → Option (Node W)) (t left right : Tree) → IsSplit old mid t left right → IsSplit old mid t right left
  split_swapped old mid t left right split =
      record { shows_left = split.shows_right; shows_right = split.shows_left; keeps = split.keeps; counts = λ k. (let e = split.counts k in omega (arith, e)) }

  -- a node put above the two
  pub swap_above : (old mid new : ℕ → Option (Node W)) (t left right : Tree) (key : ℕ) (p : Block) (index : Option ℕ) → IsSplit old mid t left right → mid key ≡ None → IsWrite mid new key (Some (node_of p index left right)) → IsSwap old new t (Fork key p index left right)
  swap_above old mid new t left right key p index split vacant write =
      record {
        shows = (
          write.changed,
          shows_frame mid new left (λ k h. write.others k (vacant_out mid left k key vacant split.shows_left h)) split.shows_left,
          shows_frame mid new right (λ k h. write.others k (vacant_out mid right k key vacant split.shows_right h)) split.shows_right,
        );
        keeps = λ k some out. write.others k (λ e. absurd (let s = sym (ap is_some (sym (split.keeps k some) ∙ ap mid e ∙ vacant)) ∙ some in cc)) ∙ split.keeps k some;
        counts = λ k. (let c = split.counts k in elim (cases_eq k key) [
          | inl e ↦ (
              let o = ap (λ j. one_if (k == j)) (sym e) ∙ one_same k in
              let m : one_if (is_some (mid k)) ≡ 0 = ap (λ x. one_if (is_some x)) (ap mid e ∙ vacant) in
              let n : one_if (is_some (new k)) ≡ 1 = ap (λ x. one_if (is_some x)) (ap new e ∙ write.changed) in
              omega (arith, c, o, m, n))
          | inr n ↦ (
              let o = one_other k key n in
              let m : one_if (is_some (new k)) ≡ one_if (is_some (mid k)) = ap (λ x. one_if (is_some x)) (write.others k n) in
              omega (arith, c, o, m))
        ]);
      }

  -- a leaf put beside the tree
  pub split_leaf : (old new : ℕ → Option (Node W)) (t : Tree) (key : ℕ) (p : Block) (index : Option ℕ) → Shows old t → old key ≡ None → IsWrite old new key (Some (node_of p index Empty Empty)) → IsSplit old new t t (Fork key p index Empty Empty)
  split_leaf old new t key p index shows vacant write =
      let swap = swap_above old old new Empty Empty Empty key p index (split_begins old Empty tt) vacant write in
      record {
        shows_left = shows_frame old new t (λ k h. write.others k (vacant_out old t k key vacant shows h)) shows;
        shows_right = swap.shows;
        keeps = λ k some. swap.keeps k some refl;
        counts = λ k. (let c = swap.counts k in omega (arith, c));
      }

  -- a node taken out, and its only child left
  pub swap_only : (old new : ℕ → Option (Node W)) (key : ℕ) (p : Block) (index : Option ℕ) (left right : Tree) → ((k : ℕ) → times k (Fork key p index left right) ≤ 1) → Shows old (Fork key p index left right) → (left ≡ Empty) ⊎ (right ≡ Empty)
      → IsWrite old new key None → IsSwap old new (Fork key p index left right) (only left right)
  swap_only old new key p index left right once shows lone write =
      let once_here = once key in
      let same = one_same key in
      record {
        shows = go_shows left right lone (shows_write old new key _ left write (omega (arith, once_here, same)) shows.1) (shows_write old new key _ right write (omega (arith, once_here, same)) shows.2);
        keeps = λ k some out. write.others k (λ e. absurd (let s = ap (λ j. one_if (k == j)) (sym e) ∙ one_same k in omega (arith, s, out)));
        counts = λ k. (let c = go_counts k left right lone in elim (cases_eq k key) [
          | inl e ↦ (
              let o = ap (λ j. one_if (k == j)) (sym e) ∙ one_same k in
              let m : one_if (is_some (old k)) ≡ 1 = ap (λ x. one_if (is_some x)) (ap old e ∙ shows.0) in
              let n : one_if (is_some (new k)) ≡ 0 = ap (λ x. one_if (is_some x)) (ap new e ∙ write.changed) in
              omega (arith, c, o, m, n))
          | inr n ↦ (
              let o = one_other k key n in
              let m : one_if (is_some (new k)) ≡ one_if (is_some (old k)) = ap (λ x. one_if (is_some x)) (write.others k n) in
              omega (arith, c, o, m))
        ]);
      }
    where
      go_shows : (l r : Tree) → (l ≡ Empty) ⊎ (r ≡ Empty) → Shows new l → Shows new r → Shows new (only l r)
      go_shows Empty r lone a b = b
      go_shows (Fork k q i l l') r lone a b = a

      go_counts : (k : ℕ) (l r : Tree) → (l ≡ Empty) ⊎ (r ≡ Empty) → times k (only l r) ≡ times k l + times k r
      go_counts k Empty r lone = omega arith
      go_counts k (Fork j q i l l') r lone = elim lone [
        | inl e ↦ absurd (let f = ap key_of e in cc)
        | inr e ↦ (let z : times k r ≡ 0 = ap (times k) e in omega (arith, z))
      ]

  -- a leaf and the node above it taken out, and the other child left
  pub swap_pruned : (old mid new : ℕ → Option (Node W)) (key above : ℕ) (t other : Tree) → ((k : ℕ) → times k t ≤ 1) → Shows old other → is_some (old key) ≡ true → is_some (old above) ≡ true
      → ((k : ℕ) → times k t ≡ one_if (k == above) + (one_if (k == key) + times k other)) → IsWrite old mid key None → IsWrite mid new above None → IsSwap old new t other
  swap_pruned old mid new key above t other once shows some_key some_above sum first second =
      let here = once key in
      let there = once above in
      let sum_here = sum key in
      let sum_there = sum above in
      let same_key = one_same key in
      let same_above = one_same above in
      let differ : key ≢ above = λ e. (let s = ap (λ j. one_if (key == j)) (sym e) ∙ same_key in omega (arith, here, sum_here, same_key, s)) in
      let lone : one_if (above == key) ≡ 0 = one_other above key (λ e. differ (sym e)) in
      let lone' : one_if (key == above) ≡ 0 = one_other key above differ in
      record {
        shows = shows_write mid new above _ other second (omega (arith, there, sum_there, same_above)) (shows_write old mid key _ other first (omega (arith, here, sum_here, same_key)) shows);
        keeps = λ k some out. (
            let s = sum k in
            second.others k (λ e. absurd (let o = ap (λ j. one_if (k == j)) (sym e) ∙ one_same k in omega (arith, s, o, out)))
            ∙ first.others k (λ e. absurd (let o = ap (λ j. one_if (k == j)) (sym e) ∙ one_same k in omega (arith, s, o, out))));
        counts = λ k. (let s = sum k in elim (cases_eq k key) [
          | inl e ↦ (
              let a = ap (λ j. one_if (k == j)) (sym e) ∙ one_same k in
              let b = ap (λ j. one_if (j == above)) e ∙ lone' in
              let o : one_if (is_some (old k)) ≡ 1 = ap (λ j. one_if (is_some (old j))) e ∙ ap one_if some_key in
              let n : one_if (is_some (new k)) ≡ 0 = ap (λ j. one_if (is_some (new j))) e ∙ ap (λ x. one_if (is_some x)) (second.others key differ ∙ first.changed) in
              omega (arith, s, a, b, o, n))
          | inr m ↦ elim (cases_eq k above) [
            | inl e ↦ (
                let a = one_other k key m in
                let b = ap (λ j. one_if (k == j)) (sym e) ∙ one_same k in
                let o : one_if (is_some (old k)) ≡ 1 = ap (λ j. one_if (is_some (old j))) e ∙ ap one_if some_above in
                let n : one_if (is_some (new k)) ≡ 0 = ap (λ j. one_if (is_some (new j))) e ∙ ap (λ x. one_if (is_some x)) second.changed in
                omega (arith, s, a, b, o, n))
            | inr l ↦ (
                let a = one_other k key m in
                let b = one_other k above l in
                let o : one_if (is_some (new k)) ≡ one_if (is_some (old k)) = ap (λ x. one_if (is_some x)) (second.others k l ∙ first.others k m) in
                omega (arith, s, a, b, o))
          ]
        ]);
      }
