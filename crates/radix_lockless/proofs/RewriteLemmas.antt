-- The trees that a change puts at a place are tries that fit there, with that change of the rows.
use Rattle.std.proofs.Common.{◌≡◌, ◌≢◌, ◌⊎◌, ℕ, ◌-◌, ◌%◌, ◌^◌, ◌≤◌, ◌<◌, Bool, true, false, ◌∷◌, ◌++◌, Option, Some, None, refl, sym, ap, ◌∙◌, arith, inl, inr, subst}
use Rattle.std.proofs.lemmas.Bool.{cases_lt, eq-eqb}
use Rattle.std.proofs.lemmas.List.{append-nil}
use Rattle.std.specs.List.{AllByRecursion}
use Rattle.std.specs.declared.cmp.Ordering.TheVariants.{Less, Equal}
use Rattle.std.specs.Ordering.{nat_cmp, ordering_then}
use Rattle.std.specs.Cmp.{nat_cmp_is}
use Rattle.prefix_width.specs.Prefix.{Block, IsBlock, IsCommonLen, bit_of, contains, head_of, masked_block}
use Rattle.prefix_width.specs.Order.{block_cmp}
use Rattle.prefix_width.proofs.PrefixLemmas.{base_from_head}
use Rattle.module_trait.specs.View.{with_row}
use Rattle.module_trait.proofs.KeyLemmas.{same_block}
use Rattle.radix_lockless.specs.Trie.{Tree, IsBelow, IsFork, IsJustified, IsTrie, IsUnder, own_rows, rows_of}
use Rattle.radix_lockless.specs.Trie.Tree.{Empty, Fork}
use Rattle.radix_lockless.specs.Path.{Path, EndsAt, IsOnWay}
use Rattle.radix_lockless.specs.Path.Path.{Top, OnLeft, OnRight}
use Rattle.radix_lockless.proofs.BelowLemmas.{below_cut, cut_below, cut_block, next_differ, upper_less}
use Rattle.radix_lockless.proofs.TreeLemmas.{all_append, all_own, all_weaker, rows_below, under_under}
use Rattle.radix_lockless.proofs.PutLemmas.{AllAfter, set_absent, set_first, set_last, set_own}
use Rattle.radix_lockless.proofs.PathLemmas.{Fits, fits_alike, left_before, right_after}
use Rattle.radix_lockless.proofs.SwapLemmas.{only}

-- a trie that fits at a place, whose rows are those of the tree there with this index at the prefix
pub record IsRewrite (w : ℕ) (path : Path) (q : Block) (index : Option ℕ) (t after : Tree) : Type 0 where
  pub trie : IsTrie w after
  pub fits : Fits w path after
  pub rows : rows_of after ≡ with_row (rows_of t) q index

pub self_equal : (p : Block) → block_cmp p p ≡ Equal
self_equal p = ap (λ o. ordering_then o (nat_cmp p.len p.len)) (sym (nat_cmp_is p.base p.base Equal refl)) ∙ sym (nat_cmp_is p.len p.len Equal refl)

-- the rows below a prefix come after it
below_after : (w : ℕ) (p : Block) (side : Bool) (t : Tree) → IsBlock w p → IsTrie w t → IsUnder w p side t → AllAfter p (rows_of t)
below_after w p side t block trie under =
    all_weaker (λ r. IsBelow w p r.0 side) (λ r. block_cmp p r.0 ≡ Less) (rows_of t) (λ r l. upper_less w p r.0 side block l) (rows_below w p side t trie under)

children_after : (w key : ℕ) (p : Block) (index : Option ℕ) (left right : Tree) → IsTrie w (Fork key p index left right) → AllAfter p (rows_of left ++ rows_of right)
children_after w key p index left right trie =
    all_append (λ r. block_cmp p r.0 ≡ Less) (rows_of left) (rows_of right) (below_after w p false left trie.0 trie.4 trie.1) (below_after w p true right trie.0 trie.5 trie.2)

-- the prefix's node is here, and gets an index, or parts two children without one
pub rewrite_index : (w : ℕ) (path : Path) (key : ℕ) (p : Block) (index now : Option ℕ) (left right : Tree) → IsTrie w (Fork key p index left right) → Fits w path (Fork key p index left right) → IsJustified now left right
    → IsRewrite w path p now (Fork key p index left right) (Fork key p now left right)
rewrite_index w path key p index now left right trie fits justified =
    record {
      trie = (trie.0, trie.1, trie.2, justified, trie.4, trie.5);
      fits = fits_alike w path key key p index now left left right right fits;
      rows = sym (set_own p index now (rows_of left ++ rows_of right) (self_equal p) (children_after w key p index left right trie));
    }

-- the topmost prefix at a place on the way to it is below the node above
abbrev pub IsHead : ℕ → Block → Path → Type 0
IsHead w q Top = Unit {0}
IsHead w q (OnLeft key p index right up) = IsBelow w p q false
IsHead w q (OnRight key p index left up) = IsBelow w p q true

pub way_head : (w : ℕ) (q : Block) (path : Path) → IsOnWay w q path → IsHead w q path
way_head w q Top way = tt
way_head w q (OnLeft key p index right up) way = way.0
way_head w q (OnRight key p index left up) way = way.0

fits_head : (w : ℕ) (path : Path) (key : ℕ) (p : Block) (index : Option ℕ) (left right : Tree) → Fits w path (Fork key p index left right) → IsHead w p path
fits_head w Top key p index left right fits = tt
fits_head w (OnLeft k q i r up) key p index left right fits = fits.0
fits_head w (OnRight k q i l up) key p index left right fits = fits.0

-- another node fits where a tree fits, if its prefix is below the node above
fits_new : (w : ℕ) (path : Path) (t : Tree) (key : ℕ) (p : Block) (index : Option ℕ) (left right : Tree) → Fits w path t → IsHead w p path → Fits w path (Fork key p index left right)
fits_new w Top t key p index left right fits head = tt
fits_new w (OnLeft k q None r up) t key p index left right fits head = (head, (tt, fits.1.1))
fits_new w (OnLeft k q (Some i) r up) t key p index left right fits head = (head, tt)
fits_new w (OnRight k q None l up) t key p index left right fits head = (head, (fits.1.0, tt))
fits_new w (OnRight k q (Some i) l up) t key p index left right fits head = (head, tt)

-- a leaf where no tree was
pub rewrite_leaf : (w : ℕ) (path : Path) (key : ℕ) (q : Block) (index : ℕ) → IsBlock w q → IsOnWay w q path → Fits w path Empty → IsRewrite w path q (Some index) Empty (Fork key q (Some index) Empty Empty)
rewrite_leaf w path key q index block way fits =
    record { trie = (block, tt, tt, tt, tt, tt); fits = fits_new w path Empty key q (Some index) Empty Empty fits (way_head w q path way); rows = refl }

-- the prefix's node above the tree, which is below it on a side
pub rewrite_left_below : (w : ℕ) (path : Path) (key : ℕ) (q : Block) (index : ℕ) (t : Tree) → IsBlock w q → IsOnWay w q path → IsTrie w t → Fits w path t → IsUnder w q false t → IsRewrite w path q (Some index) t (Fork key q (Some index) t Empty)
rewrite_left_below w path key q index t block way trie fits under =
    record {
      trie = (block, under, tt, tt, trie, tt);
      fits = fits_new w path t key q (Some index) t Empty fits (way_head w q path way);
      rows = ap (λ xs. (q, index) ∷ xs) (append-nil (rows_of t)) ∙ sym (set_first (rows_of t) q (Some index) (below_after w q false t block trie under));
    }

pub rewrite_right_below : (w : ℕ) (path : Path) (key : ℕ) (q : Block) (index : ℕ) (t : Tree) → IsBlock w q → IsOnWay w q path → IsTrie w t → Fits w path t → IsUnder w q true t → IsRewrite w path q (Some index) t (Fork key q (Some index) Empty t)
rewrite_right_below w path key q index t block way trie fits under =
    record {
      trie = (block, tt, under, tt, tt, trie);
      fits = fits_new w path t key q (Some index) Empty t fits (way_head w q path way);
      rows = sym (set_first (rows_of t) q (Some index) (below_after w q true t block trie under));
    }

-- where the way ends at another prefix, the two share fewer bits than that has
pub shares_less : (w : ℕ) (p q : Block) (n : ℕ) → IsBlock w p → IsBlock w q → IsCommonLen w p q n → (p.len < q.len → contains w p q.base ≡ true → ⊥) → p ≢ q → n < p.len
shares_less w p q n ip iq common stop differ = elim (cases_lt n p.len) [
  | inl h ↦ h
  | inr h ↦
      let first = common.first in
      let second = common.second in
      let e : n ≡ p.len = omega (arith, first, h) in
      let agree : head_of w p.len p.base ≡ head_of w p.len q.base = ap (λ m. head_of w m p.base) (sym e) ∙ common.agree ∙ ap (λ m. head_of w m q.base) e in
      elim (cases_lt p.len q.len) [
        | inl l ↦ absurd (stop l (eq-eqb _ _ (sym agree)))
        | inr l ↦
            let lens : p.len ≡ q.len = omega (arith, second, e, l) in
            absurd (differ (same_block p q (base_from_head w p.len p.base q.base ip.4 (subst (λ m. q.base % 2 ^ (w - m) ≡ 0) (sym lens) iq.4) agree) lens))
      ]
]

-- what two prefixes below the node above share is below it too
head_cut : (w : ℕ) (path : Path) (p q : Block) (n : ℕ) → p.len ≤ w → IsHead w p path → IsHead w q path → IsCommonLen w p q n → IsHead w (masked_block w q.base n) path
head_cut w Top p q n k hp hq common = tt
head_cut w (OnLeft j a i r up) p q n k hp hq common = cut_below w a p q false n k hp hq common
head_cut w (OnRight j a i l up) p q n k hp hq common = cut_below w a p q true n k hp hq common

other_bit : (a b : Bool) → (a ≡ b → ⊥) → b ≡ false → a ≡ true
other_bit true b n e = refl
other_bit false b n e = absurd (n (sym e))

other_bit' : (a b : Bool) → (a ≡ b → ⊥) → b ≡ true → a ≡ false
other_bit' true b n e = absurd (n (sym e))
other_bit' false b n e = refl

-- the node of what the two share, with a leaf and the tree on its sides
pub rewrite_fork_left : (w : ℕ) (path : Path) (fork leaf key : ℕ) (p q : Block) (i : Option ℕ) (index : ℕ) (left right : Tree) (n : ℕ) → IsBlock w q → IsOnWay w q path → IsTrie w (Fork key p i left right) → Fits w path (Fork key p i left right) → IsCommonLen w p q n → n < p.len → n < q.len → bit_of w n q.base ≡ false
    → IsRewrite w path q (Some index) (Fork key p i left right) (Fork fork (masked_block w q.base n) None (Fork leaf q (Some index) Empty Empty) (Fork key p i left right))
rewrite_fork_left w path fork leaf key p q i index left right n block way trie fits common hp hq bit =
    let g = masked_block w q.base n in
    let bq : IsBelow w g q false = subst (λ (s : Bool). IsBelow w g q s) bit (below_cut w q q.base n hq refl) in
    let bp : IsBelow w g p true = subst (λ (s : Bool). IsBelow w g p s) (other_bit _ _ (next_differ w p q n common hp hq trie.0.2) bit) (below_cut w p q.base n hp common.agree) in
    let fit : n ≤ w = (let k = block.2 in omega (arith, hq, k)) in
    record {
      trie = (cut_block w q.base n block.0 block.1 fit block.3, bq, bp, (tt, tt), (block, tt, tt, tt, tt, tt), trie);
      fits = fits_new w path (Fork key p i left right) fork g None (Fork leaf q (Some index) Empty Empty) (Fork key p i left right) fits (head_cut w path p q n trie.0.2 (fits_head w path key p i left right fits) (way_head w q path way) common);
      rows = sym (set_first (rows_of (Fork key p i left right)) q (Some index) (right_after w g q (Fork key p i left right) block.2 trie bp bq));
    }

pub rewrite_fork_right : (w : ℕ) (path : Path) (fork leaf key : ℕ) (p q : Block) (i : Option ℕ) (index : ℕ) (left right : Tree) (n : ℕ) → IsBlock w q → IsOnWay w q path → IsTrie w (Fork key p i left right) → Fits w path (Fork key p i left right) → IsCommonLen w p q n → n < p.len → n < q.len → bit_of w n q.base ≡ true
    → IsRewrite w path q (Some index) (Fork key p i left right) (Fork fork (masked_block w q.base n) None (Fork key p i left right) (Fork leaf q (Some index) Empty Empty))
rewrite_fork_right w path fork leaf key p q i index left right n block way trie fits common hp hq bit =
    let g = masked_block w q.base n in
    let bq : IsBelow w g q true = subst (λ (s : Bool). IsBelow w g q s) bit (below_cut w q q.base n hq refl) in
    let bp : IsBelow w g p false = subst (λ (s : Bool). IsBelow w g p s) (other_bit' _ _ (next_differ w p q n common hp hq trie.0.2) bit) (below_cut w p q.base n hp common.agree) in
    let fit : n ≤ w = (let k = block.2 in omega (arith, hq, k)) in
    let rows = rows_of (Fork key p i left right) in
    record {
      trie = (cut_block w q.base n block.0 block.1 fit block.3, bp, bq, (tt, tt), trie, (block, tt, tt, tt, tt, tt));
      fits = fits_new w path (Fork key p i left right) fork g None (Fork key p i left right) (Fork leaf q (Some index) Empty Empty) fits (head_cut w path p q n trie.0.2 (fits_head w path key p i left right fits) (way_head w q path way) common);
      rows = sym (ap (λ xs. with_row xs q (Some index)) (sym (append-nil rows)) ∙ set_last q None (Some index) rows (self_equal q) (left_before w g q (Fork key p i left right) trie bp bq));
    }

-- nothing is above, or a node with an index
abbrev pub IsFree : Path → Type 0
IsFree Top = Unit {0}
IsFree (OnLeft key p None right up) = ⊥
IsFree (OnLeft key p (Some index) right up) = Unit {0}
IsFree (OnRight key p None left up) = ⊥
IsFree (OnRight key p (Some index) left up) = Unit {0}

-- what is below a tree's topmost node fits where the tree does, if it is a node or need not be one
fits_below : (w : ℕ) (path : Path) (key : ℕ) (q : Block) (index : Option ℕ) (left right : Tree) (side : Bool) (t : Tree) → q.len ≤ w → Fits w path (Fork key q index left right) → IsUnder w q side t → IsFork t ⊎ IsFree path → Fits w path t
fits_below w Top key q index left right side t k fits under lone = tt
fits_below w (OnLeft j p None r up) key q index left right side t k fits under lone = (under_under w p q false side t k fits.0 under, elim lone [ inl fork ↦ (fork, fits.1.1) | inr free ↦ absurd free ])
fits_below w (OnLeft j p (Some i) r up) key q index left right side t k fits under lone = (under_under w p q false side t k fits.0 under, tt)
fits_below w (OnRight j p None l up) key q index left right side t k fits under lone = (under_under w p q true side t k fits.0 under, elim lone [ inl fork ↦ (fits.1.0, fork) | inr free ↦ absurd free ])
fits_below w (OnRight j p (Some i) l up) key q index left right side t k fits under lone = (under_under w p q true side t k fits.0 under, tt)

-- the prefix's node gone, and its only child left
pub rewrite_only : (w : ℕ) (path : Path) (key : ℕ) (q : Block) (index : Option ℕ) (left right : Tree) → IsTrie w (Fork key q index left right) → Fits w path (Fork key q index left right) → (left ≡ Empty) ⊎ (right ≡ Empty) → IsFork (only left right) ⊎ IsFree path
    → IsRewrite w path q None (Fork key q index left right) (only left right)
rewrite_only w path key q index Empty right trie fits lone free =
    record {
      trie = trie.5;
      fits = fits_below w path key q index Empty right true right trie.0.2 fits trie.2 free;
      rows = sym (set_own q index None (rows_of right) (self_equal q) (children_after w key q index Empty right trie));
    }
rewrite_only w path key q index (Fork j p i l r) right trie fits lone free =
    let none : right ≡ Empty = elim lone [ inl e ↦ absurd (cc) | inr e ↦ e ] in
    record {
      trie = trie.4;
      fits = fits_below w path key q index (Fork j p i l r) right false (Fork j p i l r) trie.0.2 fits trie.1 free;
      rows = sym (set_own q index None (rows_of (Fork j p i l r) ++ rows_of right) (self_equal q) (children_after w key q index (Fork j p i l r) right trie) ∙ ap (λ t. rows_of (Fork j p i l r) ++ rows_of t) none ∙ append-nil (rows_of (Fork j p i l r)));
    }

-- the prefix's leaf gone, and the node above, which only parted it from the other child
pub rewrite_prune_left : (w : ℕ) (up : Path) (above key : ℕ) (p q : Block) (index : Option ℕ) (other : Tree) → IsTrie w (Fork above p None (Fork key q index Empty Empty) other) → Fits w up (Fork above p None (Fork key q index Empty Empty) other)
    → IsRewrite w up q None (Fork above p None (Fork key q index Empty Empty) other) other
rewrite_prune_left w up above key p q index other trie fits =
    record {
      trie = trie.5;
      fits = fits_below w up above p None (Fork key q index Empty Empty) other true other trie.0.2 fits trie.2 (inl trie.3.1);
      rows = sym (ap (λ xs. with_row (xs ++ rows_of other) q None) (append-nil (own_rows q index)) ∙ set_own q index None (rows_of other) (self_equal q) (right_after w p q other trie.4.0.2 trie.5 trie.2 trie.1));
    }

pub rewrite_prune_right : (w : ℕ) (up : Path) (above key : ℕ) (p q : Block) (index : Option ℕ) (other : Tree) → IsTrie w (Fork above p None other (Fork key q index Empty Empty)) → Fits w up (Fork above p None other (Fork key q index Empty Empty))
    → IsRewrite w up q None (Fork above p None other (Fork key q index Empty Empty)) other
rewrite_prune_right w up above key p q index other trie fits =
    record {
      trie = trie.4;
      fits = fits_below w up above p None other (Fork key q index Empty Empty) false other trie.0.2 fits trie.1 (inl trie.3.0);
      rows = sym (ap (λ xs. with_row (rows_of other ++ xs) q None) (append-nil (own_rows q index)) ∙ set_last q index None (rows_of other) (self_equal q) (left_before w p q other trie.4 trie.1 trie.2) ∙ append-nil (rows_of other));
    }

-- no row of the tree where the way ends is the prefix's, unless the topmost is
pub rewrite_absent : (w : ℕ) (q : Block) (t : Tree) → IsTrie w t → EndsAt w q t → ((key : ℕ) (p : Block) (i : Option ℕ) (l r : Tree) → t ≡ Fork key p i l r → p ≢ q) → with_row (rows_of t) q None ≡ rows_of t
rewrite_absent w q Empty trie stop differ = refl
rewrite_absent w q (Fork key p i left right) trie stop differ =
    set_absent (rows_of (Fork key p i left right)) q
    (all_append (λ r. q ≢ r.0) (own_rows p i) (rows_of left ++ rows_of right) (all_own (λ r. q ≢ r.0) p i (λ _ e. differ key p i left right refl (sym e)))
    (all_append (λ r. q ≢ r.0) (rows_of left) (rows_of right) (go false left trie.4 trie.1) (go true right trie.5 trie.2)))
  where
    go : (side : Bool) (t : Tree) → IsTrie w t → IsUnder w p side t → AllByRecursion (λ r. q ≢ r.0) (rows_of t)
    go side t trie under = all_weaker (λ r. IsBelow w p r.0 side) (λ r. q ≢ r.0) (rows_of t) (λ r l e. stop (subst (λ (b : Block). p.len < b.len) (sym e) l.longer) (subst (λ (b : Block). contains w p b.base ≡ true) (sym e) l.covered)) (rows_below w p side t trie under)
