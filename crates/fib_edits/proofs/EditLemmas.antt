-- The edits of prefixes lead from one table of rows to another, and back.
use Rattle.std.proofs.Common.{◌≡◌, ◌≢◌, ◌⊎◌, ◌∙◌, ℕ, Bool, true, false, cond, ◌||◌, List, [], ◌∷◌, Option, Some, None, All, refl, sym, ap, subst, inl, inr, eq-eqb, arith}
use Rattle.std.specs.Prelude.{unwrap_or}
use Rattle.std.specs.declared.cmp.Ordering.{Ordering}
use Rattle.std.specs.declared.cmp.Ordering.TheVariants.{Less, Equal, Greater}
use Rattle.std.specs.Ordering.{is_eq, ordering_reverse}
use Rattle.std.specs.List.{AllByRecursion, AllPairs}
use Rattle.std.specs.List.Sorted.{IsStrictlySortedBy}
use Rattle.std.specs.Map.{keys_of}
use Rattle.std.specs.BTreeMap.{is_at}
use Rattle.std.proofs.lemmas.Bool.{cases_Bool, false≢true, both_ways, or_right, eqb-true}
use Rattle.std.proofs.lemmas.Cmp.{tied_itself}
use Rattle.std.proofs.lemmas.List.Elements.{All-cons, All-nil}
use Rattle.std.proofs.lemmas.List.Kept.{AllPairs-cons}
use Rattle.std.proofs.lemmas.Map.Keys.{sorted_head, sorted_tail}
use Rattle.std.proofs.lemmas.Map.{lookup-none}
use Rattle.std.proofs.lemmas.Map.Entries.{none_below_head}
use Rattle.counted_map.proofs.CountMapLemmas.{sorted-insert, sorted-remove}
use Rattle.prefix_width.specs.Prefix.{Block}
use Rattle.prefix_width.specs.Order.{block_cmp}
use Rattle.module_trait.specs.Rows.{IsAscending}
use Rattle.module_trait.specs.View.{row_at, with_row}
use Rattle.module_trait.specs.Edit.{IndexChange, undone_all, AreOfDistinct}
use Rattle.module_trait.proofs.KeyLemmas.{block_exact, cases_block, at_is, row_at-other}
use Rattle.module_trait.proofs.UndoLemmas.{block_total, row_at-set}
use Rattle.fib_edits.specs.Touching.{is_among}
use Rattle.fib_edits.specs.Edits.{same_index, edits_at, done_all, is_edited}

-- ---- prefixes among others

pub at_itself : (p : Block) → is_at (block_cmp p) p ≡ true
at_itself p = ap is_eq (tied_itself block_total p)

pub not_at : (q p : Block) → q ≢ p → is_at (block_cmp q) p ≡ false
not_at q p n = elim (cases_Bool (is_at (block_cmp q) p)) [ inl h ↦ absurd (n (at_is q p h)) | inr h ↦ h ]

among_behind : (q p : Block) (ps : List Block) → p ≢ q → is_among q (p ∷ ps) ≡ is_among q ps
among_behind q p ps n = ap (λ b. b || is_among q ps) (not_at q p (λ x. n (sym x)))

-- ---- the sides of an edit

pub same_is : (x y : Option ℕ) → same_index x y ≡ true → x ≡ y
same_is None None e = refl
same_is None (Some j) e = absurd (false≢true e)
same_is (Some i) None e = absurd (false≢true e)
same_is (Some i) (Some j) e = ap (λ (n : ℕ). let o : Option ℕ = Some n in o) (eqb-true i j e)

pub same_itself : (x : Option ℕ) → same_index x x ≡ true
same_itself None = refl
same_itself (Some i) = eq-eqb i i refl

pub differ : (x y : Option ℕ) → same_index x y ≡ false → x ≢ y
differ x y e h = both_ways (same_index x y) e (ap (same_index x) (sym h) ∙ same_itself x)

-- ---- rows that ascend

pub ascends_with : (rows : List (Block × ℕ)) (p : Block) (index : Option ℕ) → IsAscending rows → IsAscending (with_row rows p index)
ascends_with rows p None up = sorted-remove block_cmp block_total (is_at (block_cmp p)) rows up
ascends_with rows p (Some i) up = sorted-insert block_cmp block_total rows p i up

pub ascends_done : (edits : List IndexChange) (rows : List (Block × ℕ)) → IsAscending rows → IsAscending (done_all edits rows)
ascends_done [] rows up = up
ascends_done (e ∷ edits) rows up = ascends_done edits (with_row rows e.prefix e.after) (ascends_with rows e.prefix e.after up)

pub ascends_undone : (edits : List IndexChange) (rows : List (Block × ℕ)) → IsAscending rows → IsAscending (undone_all edits rows)
ascends_undone [] rows up = up
ascends_undone (e ∷ edits) rows up = ascends_undone edits (with_row rows e.prefix e.before) (ascends_with rows e.prefix e.before up)

-- below the first row there is no row, nor is there one of its prefix behind it
none_below : (p : Block) (e : Block × ℕ) (rows : List (Block × ℕ)) → IsAscending (e ∷ rows) → block_cmp p e.0 ≡ Less → row_at (e ∷ rows) p ≡ None
none_below p e rows up h = lookup-none (is_at (block_cmp p)) (e ∷ rows) (none_below_head block_total p e rows up h)

none_behind : (p : Block) (rows : List (Block × ℕ)) → AllByRecursion (λ q. block_cmp p q ≡ Less) (keys_of rows) → row_at rows p ≡ None
none_behind p [] above = refl
none_behind p (e ∷ rows) above = ap (λ o. cond (is_eq o) (Some e.1) (row_at rows p)) above.0 ∙ none_behind p rows above.1

first_is : (e : Block × ℕ) (rows : List (Block × ℕ)) → row_at (e ∷ rows) e.0 ≡ Some e.1
first_is e rows = ap (λ b. cond b (Some e.1) (row_at rows e.0)) (at_itself e.0)

past : (q : Block) (e : Block × ℕ) (rows : List (Block × ℕ)) → q ≢ e.0 → row_at (e ∷ rows) q ≡ row_at rows q
past q e rows n = ap (λ b. cond b (Some e.1) (row_at rows q)) (not_at q e.0 n)

some_not_none : (i : ℕ) (o : Option ℕ) → o ≡ Some i → o ≡ None → ⊥
some_not_none i o e n = absurd (let x = sym e ∙ n in cc)

some_same : (i j : ℕ) → Some i ≡ Some j → i ≡ j
some_same i j e = ap (λ o. unwrap_or o 0) e

-- rows that ascend are one where they have the same index at each prefix
pub same_rows : (a b : List (Block × ℕ)) → IsAscending a → IsAscending b → ((q : Block) → row_at a q ≡ row_at b q) → a ≡ b
same_rows [] [] up_a up_b same = refl
same_rows [] (f ∷ b) up_a up_b same = absurd (some_not_none f.1 (row_at (f ∷ b) f.0) (first_is f b) (sym (same f.0)))
same_rows (e ∷ a) [] up_a up_b same = absurd (some_not_none e.1 (row_at (e ∷ a) e.0) (first_is e a) (same e.0))
same_rows (e ∷ a) (f ∷ b) up_a up_b same =
    by (block_cmp e.0 f.0) refl (same_rows a b (sorted_tail block_cmp e.0 (keys_of a) up_a) (sorted_tail block_cmp f.0 (keys_of b) up_b))
  where
    by : (o : Ordering) → block_cmp e.0 f.0 ≡ o → (((q : Block) → row_at a q ≡ row_at b q) → a ≡ b) → (e ∷ a) ≡ (f ∷ b)
    by Less h rest = absurd (some_not_none e.1 (row_at (e ∷ a) e.0) (first_is e a) (same e.0 ∙ none_below e.0 f b up_b h))
    by Greater h rest =
        let back : block_cmp f.0 e.0 ≡ Less = block_total.antisymm f.0 e.0 ∙ ap ordering_reverse h in
        absurd (some_not_none f.1 (row_at (f ∷ b) f.0) (first_is f b) (sym (same f.0) ∙ none_below f.0 e a up_a back))
    by Equal h rest =
        let key : e.0 ≡ f.0 = block_exact e.0 f.0 h in
        let value : e.1 ≡ f.1 = some_same e.1 f.1 (sym (first_is e a) ∙ same e.0 ∙ ap (λ q. row_at (f ∷ b) q) key ∙ first_is f b) in
        let tails : a ≡ b = rest (λ q. elim (cases_block q e.0) [
          | inl is ↦
              ap (λ x. row_at a x) is ∙ none_behind e.0 a (sorted_head block_cmp e.0 (keys_of a) up_a)
              ∙ sym (ap (λ x. row_at b x) (is ∙ key) ∙ none_behind f.0 b (sorted_head block_cmp f.0 (keys_of b) up_b))
          | inr other ↦ sym (past q e a other) ∙ same q ∙ past q f b (λ x. other (x ∙ sym key))
        ]) in
        ap (λ k. (k, e.1) ∷ a) key ∙ ap (λ v. (f.0, v) ∷ a) value ∙ ap (λ rows. f ∷ rows) tails

-- ---- a walk over touched prefixes: each row is as it is to be, or is still to come

module _ (from to : Block → Option ℕ) where
  abbrev pub Nears : List Block → List (Block × ℕ) → Type 0
  Nears ps rows = (q : Block) → (row_at rows q ≡ to q) ⊎ ((is_among q ps ≡ true) × (row_at rows q ≡ from q))

  pub near_step : (p : Block) (ps : List Block) (rows : List (Block × ℕ)) → IsAscending rows → Nears (p ∷ ps) rows → Nears ps (with_row rows p (to p))
  near_step p ps rows up near q = elim (cases_block p q) [
    | inl same ↦ inl (subst (λ x. row_at (with_row rows p (to p)) x ≡ to x) same (row_at-set rows p (to p) up))
    | inr other ↦
        let kept = row_at-other rows p q (to p) other in
        elim (near q) [
          | inl there ↦ inl (kept ∙ there)
          | inr still ↦ inr (sym (among_behind q p ps other) ∙ still.0, kept ∙ still.1)
        ]
  ]

  near_skip : (p : Block) (ps : List Block) (rows : List (Block × ℕ)) → from p ≡ to p → Nears (p ∷ ps) rows → Nears ps rows
  near_skip p ps rows same near q = elim (near q) [
    | inl there ↦ inl there
    | inr still ↦ elim (cases_block p q) [
      | inl is ↦ inl (still.1 ∙ subst (λ x. from x ≡ to x) is same)
      | inr other ↦ inr (sym (among_behind q p ps other) ∙ still.0, still.1)
    ]
  ]

  pub near_end : (rows : List (Block × ℕ)) → Nears [] rows → (q : Block) → row_at rows q ≡ to q
  near_end rows near q = elim (near q) [ inl there ↦ there | inr still ↦ absurd (false≢true still.0) ]

  pub near_start : (ps : List Block) (rows : List (Block × ℕ)) → ((q : Block) → row_at rows q ≡ from q) → ((q : Block) → is_among q ps ≡ false → from q ≡ to q) → Nears ps rows
  near_start ps rows at same q = elim (cases_Bool (is_among q ps)) [
    | inl h ↦ inr (h, at q)
    | inr h ↦ inl (at q ∙ same q h)
  ]

-- doing the edits leads to what is to be
pub walk_done : (from to : Block → Option ℕ) (ps : List Block) (rows : List (Block × ℕ)) → IsAscending rows → Nears from to ps rows → (q : Block) → row_at (done_all (edits_at from to ps) rows) q ≡ to q
walk_done from to [] rows up near q = near_end from to rows near q
walk_done from to (p ∷ ps) rows up near q =
    by (same_index (from p) (to p)) refl (walk_done from to ps rows up) (walk_done from to ps (with_row rows p (to p)) (ascends_with rows p (to p) up))
  where
    e : IndexChange
    e = record { prefix = p; before = from p; after = to p }

    by : (t : Bool) → same_index (from p) (to p) ≡ t
        → (Nears from to ps rows → (q : Block) → row_at (done_all (edits_at from to ps) rows) q ≡ to q)
        → (Nears from to ps (with_row rows p (to p)) → (q : Block) → row_at (done_all (edits_at from to ps) (with_row rows p (to p))) q ≡ to q)
        → row_at (done_all (cond t (edits_at from to ps) (record { prefix = p; before = from p; after = to p } ∷ edits_at from to ps)) rows) q ≡ to q
    by true h stay go = stay (near_skip from to p ps rows (same_is (from p) (to p) h) near) q
    by false h stay go = go (near_step from to p ps rows up near) q

-- undoing them leads back
pub walk_undone : (from to : Block → Option ℕ) (ps : List Block) (rows : List (Block × ℕ)) → IsAscending rows → Nears to from ps rows → (q : Block) → row_at (undone_all (edits_at from to ps) rows) q ≡ from q
walk_undone from to [] rows up near q = near_end to from rows near q
walk_undone from to (p ∷ ps) rows up near q =
    by (same_index (from p) (to p)) refl (walk_undone from to ps rows up) (walk_undone from to ps (with_row rows p (from p)) (ascends_with rows p (from p) up))
  where
    by : (t : Bool) → same_index (from p) (to p) ≡ t
        → (Nears to from ps rows → (q : Block) → row_at (undone_all (edits_at from to ps) rows) q ≡ from q)
        → (Nears to from ps (with_row rows p (from p)) → (q : Block) → row_at (undone_all (edits_at from to ps) (with_row rows p (from p))) q ≡ from q)
        → row_at (undone_all (cond t (edits_at from to ps) (record { prefix = p; before = from p; after = to p } ∷ edits_at from to ps)) rows) q ≡ from q
    by true h stay go = stay (near_skip to from p ps rows (sym (same_is (from p) (to p) h)) near) q
    by false h stay go = go (near_step to from p ps rows up near) q

-- ---- what holds of each edit

module _ (from to : Block → Option ℕ) where
  abbrev edit_of : Block → IndexChange
  edit_of p = record { prefix = p; before = from p; after = to p }

  each : (P : IndexChange → Type 0) (ps : List Block) → AllByRecursion (λ p. same_index (from p) (to p) ≡ false → P (edit_of p)) ps → All P (edits_at from to ps)
  each P [] all = All-nil P
  each P (p ∷ ps) all = by (same_index (from p) (to p)) refl (each P ps all.1)
    where
      by : (t : Bool) → same_index (from p) (to p) ≡ t → All P (edits_at from to ps) → All P (cond t (edits_at from to ps) (edit_of p ∷ edits_at from to ps))
      by true h rest = rest
      by false h rest = All-cons P (edit_of p) (edits_at from to ps) (all.0 h) rest

  everywhere : (P : Block → Type 0) → ((p : Block) → P p) → (ps : List Block) → AllByRecursion P ps
  everywhere P f [] = tt
  everywhere P f (p ∷ ps) = (f p, everywhere P f ps)

  pub each_edit : (P : IndexChange → Type 0) → ((p : Block) → same_index (from p) (to p) ≡ false → P (edit_of p)) → (ps : List Block) → All P (edits_at from to ps)
  each_edit P f ps = each P ps (everywhere (λ p. same_index (from p) (to p) ≡ false → P (edit_of p)) f ps)

  weaker : (P Q : Block → Type 0) → ((p : Block) → P p → Q p) → (ps : List Block) → AllByRecursion P ps → AllByRecursion Q ps
  weaker P Q f [] all = tt
  weaker P Q f (p ∷ ps) all = (f p all.0, weaker P Q f ps all.1)

  apart : (p q : Block) → block_cmp p q ≡ Less → p ≢ q
  apart p q less same = let tied = subst (λ x. block_cmp p x ≡ Equal) same (tied_itself block_total p) in absurd (let e = sym less ∙ tied in cc)

  pub distinct : (ps : List Block) → IsStrictlySortedBy block_cmp ps → AreOfDistinct (edits_at from to ps)
  distinct [] up = λ i j d lt within. absurd (omega (arith, within))
  distinct (p ∷ ps) up = by (same_index (from p) (to p)) refl (distinct ps (sorted_tail block_cmp p ps up))
    where
      R : IndexChange → IndexChange → Type 0
      R e f = e.prefix ≢ f.prefix

      by : (t : Bool) → same_index (from p) (to p) ≡ t → AllPairs R (edits_at from to ps) → AllPairs R (cond t (edits_at from to ps) (edit_of p ∷ edits_at from to ps))
      by true h rest = rest
      by false h rest =
          AllPairs-cons R (edit_of p) (edits_at from to ps)
          (each (R (edit_of p)) ps (weaker (λ q. block_cmp p q ≡ Less) (λ q. same_index (from q) (to q) ≡ false → p ≢ q) (λ q less _. apart p q less) ps (sorted_head block_cmp p ps up)))
          rest

  -- a touched prefix whose index differs has an edit
  pub edited : (ps : List Block) (q : Block) → is_among q ps ≡ true → same_index (from q) (to q) ≡ false → is_edited q (edits_at from to ps) ≡ true
  edited [] q among differs = absurd (false≢true among)
  edited (p ∷ ps) q among differs = elim (cases_block p q) [
    | inl same ↦ here same (same_index (from p) (to p)) (subst (λ x. same_index (from x) (to x) ≡ false) (sym same) differs) refl
    | inr other ↦ behind (same_index (from p) (to p)) (edited ps q (sym (among_behind q p ps other) ∙ among) differs)
  ]
    where
      here : p ≡ q → (t : Bool) → t ≡ false → same_index (from p) (to p) ≡ t → is_edited q (cond t (edits_at from to ps) (edit_of p ∷ edits_at from to ps)) ≡ true
      here same true h e = absurd (false≢true (sym h))
      here same false h e = ap (λ b. b || is_edited q (edits_at from to ps)) (subst (λ x. is_at (block_cmp x) p ≡ true) same (at_itself p))

      behind : (t : Bool) → is_edited q (edits_at from to ps) ≡ true → is_edited q (cond t (edits_at from to ps) (edit_of p ∷ edits_at from to ps)) ≡ true
      behind true h = h
      behind false h = or_right (is_at (block_cmp q) p) (is_edited q (edits_at from to ps)) h
