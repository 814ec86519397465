-- Another tree at a place: what the whole then is.
use Rattle.std.proofs.Common.{◌≡◌, ℕ, ◌+◌, ◌≤◌, true, false, List, [], ◌∷◌, ◌++◌, Option, Some, None, refl, sym, ap, ◌∙◌, arith, append_assoc}
use Rattle.std.specs.declared.cmp.Ordering.TheVariants.{Less, Greater}
use Rattle.prefix_width.specs.Prefix.{Block, IsBlock}
use Rattle.prefix_width.specs.Order.{block_cmp}
use Rattle.radix_lockless.specs.declared.node.Node.{Node}
use Rattle.radix_lockless.specs.Trie.{Tree, IsBelow, IsJustified, IsUnder, IsTrie, Shows, node_of, own_rows, rows_of, times}
use Rattle.radix_lockless.specs.Trie.Tree.{Fork}
use Rattle.radix_lockless.specs.Path.{Path, IsOnWay, plug, times_around}
use Rattle.radix_lockless.specs.Path.Path.{Top, OnLeft, OnRight}
use Rattle.radix_lockless.proofs.BelowLemmas.{greater_base, less_base, lower_greater, sides}
use Rattle.radix_lockless.proofs.PutLemmas.{AllAfter, AllBefore}
use Rattle.radix_lockless.proofs.TreeLemmas.{all_append, all_own, all_weaker, both_weaker, one_same, rows_below, rows_blocks, shows_frame}

-- the rows in front of a place, and those behind it
abbrev pub front_of : Path → List (Block × ℕ)
front_of Top = []
front_of (OnLeft key p index right up) = front_of up ++ own_rows p index
front_of (OnRight key p index left up) = front_of up ++ (own_rows p index ++ rows_of left)

abbrev pub back_of : Path → List (Block × ℕ)
back_of Top = []
back_of (OnLeft key p index right up) = rows_of right ++ back_of up
back_of (OnRight key p index left up) = back_of up

pub rows-plug : (path : Path) (t : Tree) → rows_of (plug path t) ≡ front_of path ++ (rows_of t ++ back_of path)
rows-plug Top t = sym (append-nil (rows_of t))
  where
    append-nil : (xs : List (Block × ℕ)) → xs ++ [] ≡ xs
    append-nil [] = refl
    append-nil (x ∷ xs) = ap (λ ys. x ∷ ys) (append-nil xs)
rows-plug (OnLeft key p index right up) t = rows-plug up (Fork key p index t right) ∙ simp append_assoc
rows-plug (OnRight key p index left up) t = rows-plug up (Fork key p index left t) ∙ simp append_assoc

pub times-plug : (k : ℕ) (path : Path) (t : Tree) → times k (plug path t) ≡ times_around k path + times k t
times-plug k Top t = omega arith
times-plug k (OnLeft key p index right up) t = times-plug k up (Fork key p index t right) ∙ omega arith
times-plug k (OnRight key p index left up) t = times-plug k up (Fork key p index left t) ∙ omega arith

-- what a tree at the place must be, beside a trie
abbrev pub Fits : ℕ → Path → Tree → Type 0
Fits w Top t = Unit {0}
Fits w (OnLeft key p index right up) t = IsUnder w p false t × IsJustified index t right
Fits w (OnRight key p index left up) t = IsUnder w p true t × IsJustified index left t

-- it depends on the topmost prefix alone
pub fits_alike : (w : ℕ) (path : Path) (key key' : ℕ) (p : Block) (i i' : Option ℕ) (l l' r r' : Tree) → Fits w path (Fork key p i l r) → Fits w path (Fork key' p i' l' r')
fits_alike w Top key key' p i i' l l' r r' fits = tt
fits_alike w (OnLeft k q None right up) key key' p i i' l l' r r' fits = fits
fits_alike w (OnLeft k q (Some j) right up) key key' p i i' l l' r r' fits = fits
fits_alike w (OnRight k q None left up) key key' p i i' l l' r r' fits = fits
fits_alike w (OnRight k q (Some j) left up) key key' p i i' l l' r r' fits = fits

-- in a trie, a tree at a place is one and fits
pub trie_here : (w : ℕ) (path : Path) (t : Tree) → IsTrie w (plug path t) → IsTrie w t × Fits w path t
trie_here w Top t trie = (trie, tt)
trie_here w (OnLeft key p index right up) t trie =
    let above = trie_here w up (Fork key p index t right) trie in
    (above.0.4, (above.0.1, above.0.3))
trie_here w (OnRight key p index left up) t trie =
    let above = trie_here w up (Fork key p index left t) trie in
    (above.0.5, (above.0.2, above.0.3))

-- and another trie that fits can stand there
pub trie_put : (w : ℕ) (path : Path) (t after : Tree) → IsTrie w (plug path t) → IsTrie w after → Fits w path after → IsTrie w (plug path after)
trie_put w Top t after trie now fits = now
trie_put w (OnLeft key p index right up) t after trie now fits =
    let above = trie_here w up (Fork key p index t right) trie in
    trie_put w up (Fork key p index t right) (Fork key p index after right) trie
    (above.0.0, fits.0, above.0.2, fits.1, now, above.0.5)
    (fits_alike w up key key p index index t after right right above.1)
trie_put w (OnRight key p index left up) t after trie now fits =
    let above = trie_here w up (Fork key p index left t) trie in
    trie_put w up (Fork key p index left t) (Fork key p index left after) trie
    (above.0.0, above.0.1, fits.0, fits.1, above.0.4, now)
    (fits_alike w up key key p index index left left t after above.1)

-- the rows on the left of p come before what stands on its right, and the other way round
pub left_before : (w : ℕ) (p q : Block) (left : Tree) → IsTrie w left → IsUnder w p false left → IsBelow w p q true → AllBefore q (rows_of left)
left_before w p q left trie under below =
    let blocks = rows_blocks w left trie in
    let belows = rows_below w p false left trie under in
    both_weaker (λ r. IsBlock w r.0) (λ r. IsBelow w p r.0 false) (λ r. block_cmp q r.0 ≡ Greater) (rows_of left) (λ r b l. greater_base q r.0 (sides w p r.0 q b.2 l below)) blocks belows

pub right_after : (w : ℕ) (p q : Block) (right : Tree) → q.len ≤ w → IsTrie w right → IsUnder w p true right → IsBelow w p q false → AllAfter q (rows_of right)
right_after w p q right k trie under below =
    all_weaker (λ r. IsBelow w p r.0 true) (λ r. block_cmp q r.0 ≡ Less) (rows_of right) (λ r l. less_base q r.0 (sides w p q r.0 k below l)) (rows_below w p true right trie under)

-- the rows in front of a place on the way to a prefix come before it
pub front_before : (w : ℕ) (q : Block) (path : Path) (t : Tree) → IsTrie w (plug path t) → IsOnWay w q path → AllBefore q (front_of path)
front_before w q Top t trie way = tt
front_before w q (OnLeft key p index right up) t trie way =
    let above = trie_here w up (Fork key p index t right) trie in
    all_append (λ r. block_cmp q r.0 ≡ Greater) (front_of up) (own_rows p index) (front_before w q up (Fork key p index t right) trie way.1)
    (all_own (λ r. block_cmp q r.0 ≡ Greater) p index (λ i. lower_greater w p q false above.0.0 way.0))
front_before w q (OnRight key p index left up) t trie way =
    let above = trie_here w up (Fork key p index left t) trie in
    all_append (λ r. block_cmp q r.0 ≡ Greater) (front_of up) (own_rows p index ++ rows_of left) (front_before w q up (Fork key p index left t) trie way.1)
    (all_append (λ r. block_cmp q r.0 ≡ Greater) (own_rows p index) (rows_of left)
    (all_own (λ r. block_cmp q r.0 ≡ Greater) p index (λ i. lower_greater w p q true above.0.0 way.0))
    (left_before w p q left above.0.4 above.0.1 way.0))

-- and those behind it after
pub back_after : (w : ℕ) (q : Block) (path : Path) (t : Tree) → q.len ≤ w → IsTrie w (plug path t) → IsOnWay w q path → AllAfter q (back_of path)
back_after w q Top t k trie way = tt
back_after w q (OnLeft key p index right up) t k trie way =
    let above = trie_here w up (Fork key p index t right) trie in
    all_append (λ r. block_cmp q r.0 ≡ Less) (rows_of right) (back_of up) (right_after w p q right k above.0.5 above.0.2 way.0) (back_after w q up (Fork key p index t right) k trie way.1)
back_after w q (OnRight key p index left up) t k trie way = back_after w q up (Fork key p index left t) k trie way.1

-- how often a key is around a place, but for the node above
abbrev pub times_beyond : ℕ → Path → ℕ
times_beyond k Top = 0
times_beyond k (OnLeft key p index right up) = times k right + times_around k up
times_beyond k (OnRight key p index left up) = times k left + times_around k up

around_up : (k : ℕ) (up : Path) → 1 ≤ times_beyond k up → 1 ≤ times_around k up
around_up k Top h = h
around_up k (OnLeft key p index right up) h = omega (arith, h)
around_up k (OnRight key p index left up) h = omega (arith, h)

module _ {W : ℕ} where
  -- the node above has this link at the place
  abbrev pub IsLinked : (ℕ → Option (Node W)) → Path → Tree → Type 0
  IsLinked nodes Top t = Unit {0}
  IsLinked nodes (OnLeft key p index right up) t = nodes key ≡ Some (node_of p index t right)
  IsLinked nodes (OnRight key p index left up) t = nodes key ≡ Some (node_of p index left t)

  pub shows_here : (nodes : ℕ → Option (Node W)) (path : Path) (t : Tree) → Shows nodes (plug path t) → Shows nodes t × IsLinked nodes path t
  shows_here nodes Top t shows = (shows, tt)
  shows_here nodes (OnLeft key p index right up) t shows = let above = shows_here nodes up (Fork key p index t right) shows in (above.0.1, above.0.0)
  shows_here nodes (OnRight key p index left up) t shows = let above = shows_here nodes up (Fork key p index left t) shows in (above.0.2, above.0.0)

  linked_alike : (old new : ℕ → Option (Node W)) (path : Path) (key : ℕ) (p : Block) (i : Option ℕ) (l l' r r' : Tree) → ((k : ℕ) → 1 ≤ times_around k path → new k ≡ old k) → IsLinked old path (Fork key p i l r) → IsLinked new path (Fork key p i l' r')
  linked_alike old new Top key p i l l' r r' same linked = tt
  linked_alike old new (OnLeft k q j right up) key p i l l' r r' same linked = same k (let e = one_same k in omega (arith, e)) ∙ linked
  linked_alike old new (OnRight k q j left up) key p i l l' r r' same linked = same k (let e = one_same k in omega (arith, e)) ∙ linked

  -- nodes that show another tree at a place, are linked there and are as before beyond, show the whole
  pub shows_put : (old new : ℕ → Option (Node W)) (path : Path) (t after : Tree) → Shows old (plug path t) → Shows new after → IsLinked new path after → ((k : ℕ) → 1 ≤ times_beyond k path → new k ≡ old k) → Shows new (plug path after)
  shows_put old new Top t after shows now linked same = now
  shows_put old new (OnLeft key p index right up) t after shows now linked same =
      let above = shows_here old up (Fork key p index t right) shows in
      shows_put old new up (Fork key p index t right) (Fork key p index after right) shows
      (linked, now, shows_frame old new right (λ k h. same k (omega (arith, h))) above.0.2)
      (linked_alike old new up key p index t after right right (λ k h. same k (omega (arith, h))) above.1)
      (λ k h. same k (let b = around_up k up h in omega (arith, b)))
  shows_put old new (OnRight key p index left up) t after shows now linked same =
      let above = shows_here old up (Fork key p index left t) shows in
      shows_put old new up (Fork key p index left t) (Fork key p index left after) shows
      (linked, shows_frame old new left (λ k h. same k (omega (arith, h))) above.0.1, now)
      (linked_alike old new up key p index left left t after (λ k h. same k (omega (arith, h))) above.1)
      (λ k h. same k (let b = around_up k up h in omega (arith, b)))
