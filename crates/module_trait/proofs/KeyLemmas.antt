-- Rows by prefix: prefixes that the order finds equal are one, and an edit of one prefix leaves the others.
use Rattle.std.proofs.Common.{◌≡◌, ◌≢◌, ◌⊎◌, ℕ, true, cond, List, [], ◌∷◌, Option, Some, None, refl, sym, ap, ◌∙◌, subst, inl, inr}
use Rattle.std.specs.Prelude.{IsSome, is_some}
use Rattle.std.specs.declared.cmp.Ordering.{Ordering}
use Rattle.std.specs.declared.cmp.Ordering.TheVariants.{Less, Equal, Greater}
use Rattle.std.specs.Ordering.{nat_cmp, is_eq, match_ordering}
use Rattle.std.specs.Map.{keys_of, remove_entry}
use Rattle.std.specs.BTreeMap.{insert_entry, is_at}
use Rattle.std.proofs.lemmas.Bool.{cases_Bool, cases_eq, false≢true}
use Rattle.std.proofs.lemmas.List.Elements.{All-head, All-tail}
use Rattle.std.proofs.lemmas.Map.Lookups.{CmpEqualImpliesEq, exact_unsigned}
use Rattle.prefix_width.specs.Prefix.{Block, IsBlock}
use Rattle.prefix_width.specs.Order.{block_cmp}
use Rattle.prefix_width.proofs.OrderLemmas.{then_equal}
use Rattle.module_trait.specs.Rows.{AreBlocks}
use Rattle.module_trait.specs.View.{row_at, with_row}

-- prefixes of one address and one length are one
pub same_block : (p q : Block) → p.base ≡ q.base → p.len ≡ q.len → p ≡ q
same_block p q e l = λ i. record { base = e i; len = l i }

pub block_exact : CmpEqualImpliesEq block_cmp
block_exact p q e =
    let both = then_equal (nat_cmp p.base q.base) _ e in
    same_block p q (exact_unsigned _ _ both.0) (exact_unsigned _ _ both.1)

-- two prefixes are one or not
pub cases_block : (p q : Block) → (p ≡ q) ⊎ (p ≢ q)
cases_block p q = elim (cases_eq p.base q.base) [
  | inl e ↦ elim (cases_eq p.len q.len) [
    | inl l ↦ inl (same_block p q e l)
    | inr n ↦ inr (λ x. n (ap (λ b. b.len) x))
  ]
  | inr n ↦ inr (λ x. n (ap (λ b. b.base) x))
]

equal_from_test : (o : Ordering) → is_eq o ≡ true → o ≡ Equal
equal_from_test Less e = absurd (false≢true e)
equal_from_test Equal e = refl
equal_from_test Greater e = absurd (false≢true e)

-- a key that passes a prefix's test is the prefix
pub at_is : (p q : Block) → is_at (block_cmp p) q ≡ true → p ≡ q
at_is p q e = block_exact p q (equal_from_test (block_cmp p q) e)

-- a row of another prefix is passed over
skip : (e : Block × ℕ) (rows : List (Block × ℕ)) (q : Block) → q ≢ e.0 → row_at (e ∷ rows) q ≡ row_at rows q
skip e rows q n = elim (cases_Bool (is_at (block_cmp q) e.0)) [
  | inl h ↦ absurd (n (at_is q e.0 h))
  | inr h ↦ ap (λ b. cond b (Some e.1) (row_at rows q)) h
]

-- what has a row is a prefix of w bits
pub block_at : (w : ℕ) (rows : List (Block × ℕ)) (q : Block) → AreBlocks w rows → IsSome (row_at rows q) → IsBlock w q
block_at w [] q blocks some = absurd (false≢true some)
block_at w (e ∷ rows) q blocks some = elim (cases_Bool (is_at (block_cmp q) e.0)) [
  | inl h ↦ subst (IsBlock w) (sym (at_is q e.0 h)) (All-head (IsBlock w) e.0 (keys_of rows) blocks)
  | inr h ↦ block_at w rows q (All-tail (IsBlock w) e.0 (keys_of rows) blocks) (sym (ap (λ b. is_some (cond b (Some e.1) (row_at rows q))) h) ∙ some)
]

other-remove : (rows : List (Block × ℕ)) (p q : Block) → p ≢ q → row_at (remove_entry (is_at (block_cmp p)) rows) q ≡ row_at rows q
other-remove [] p q n = refl
other-remove (e ∷ rows) p q n =
    let rest = other-remove rows p q n in
    elim (cases_Bool (is_at (block_cmp p) e.0)) [
      | inl h ↦ ap (λ b. row_at (cond b rows (e ∷ remove_entry (is_at (block_cmp p)) rows)) q) h ∙ sym (skip e rows q (λ x. n (at_is p e.0 h ∙ sym x)))
      | inr h ↦ ap (λ b. row_at (cond b rows (e ∷ remove_entry (is_at (block_cmp p)) rows)) q) h ∙ ap (cond (is_at (block_cmp q) e.0) (Some e.1)) rest
    ]

other-insert : (rows : List (Block × ℕ)) (p q : Block) (index : ℕ) → p ≢ q → row_at (insert_entry block_cmp rows p index) q ≡ row_at rows q
other-insert [] p q index n = skip (p, index) [] q (λ x. n (sym x))
other-insert (e ∷ rows) p q index n = by (block_cmp p e.0) refl (other-insert rows p q index n)
  where
    by : (o : Ordering) → block_cmp p e.0 ≡ o → row_at (insert_entry block_cmp rows p index) q ≡ row_at rows q → row_at (match_ordering o ((p, index) ∷ e ∷ rows) ((e.0, index) ∷ rows) (e ∷ insert_entry block_cmp rows p index)) q ≡ row_at (e ∷ rows) q
    by Less h rest = skip (p, index) (e ∷ rows) q (λ x. n (sym x))
    by Equal h rest = let other : q ≢ e.0 = λ x. n (block_exact p e.0 h ∙ sym x) in skip (e.0, index) rows q other ∙ sym (skip e rows q other)
    by Greater h rest = ap (cond (is_at (block_cmp q) e.0) (Some e.1)) rest

-- an edit at one prefix leaves what every other has
pub row_at-other : (rows : List (Block × ℕ)) (p q : Block) (index : Option ℕ) → p ≢ q → row_at (with_row rows p index) q ≡ row_at rows q
row_at-other rows p q None n = other-remove rows p q n
row_at-other rows p q (Some index) n = other-insert rows p q index n
