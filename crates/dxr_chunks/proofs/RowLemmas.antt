-- The rows that decide the answers inside a prefix: its longest shorter cover, and those that it covers.
use Rattle.std.proofs.Common.{◌≡◌, ℕ, ◌+◌, ◌-◌, ◌*◌, ◌^◌, ◌<◌, ◌≤◌, Bool, true, false, cond, List, [], ◌∷◌, ◌++◌, Option, Some, None, refl, sym, ap, ◌∙◌, arith, inl, inr, subst, filter, All, IsTrue, unwrap_or}
use Rattle.std.specs.Prelude.{Contains, IfSome, IfNone, is_some}
use Rattle.std.specs.Option.{option_to_list}
use Rattle.std.specs.BTreeMap.{is_at}
use Rattle.std.specs.List.{AllByRecursion}
use Rattle.std.specs.List.Sorted.{IsStrictlySortedBy}
use Rattle.std.specs.Map.{keys_of}
use Rattle.std.specs.Cmp.{nat_cmp_is}
use Rattle.std.specs.Ordering.{nat_cmp, ordering_then, eq_by_cmp}
use Rattle.std.specs.declared.cmp.Ordering.TheVariants.{Less, Equal}
use Rattle.std.proofs.lemmas.Bool.{cases_lt, cases_eq, cond-true, both_ways, false≢true}
use Rattle.std.proofs.lemmas.Bool.Decides.{nat_tests}
use Rattle.std.proofs.lemmas.List.{map-append}
use Rattle.std.proofs.lemmas.List.Elements.{All-nil, All-cons, All-weaker, All-filter, All-map, All-contains, All-contains_itself, All-append, filter_passes, recursion_from_All, Contains-append_left, Contains-append_right, Contains-append_cases, Contains-push, Contains-push_cases}
use Rattle.std.proofs.lemmas.List.Kept.{IsStrictlySortedBy-filter}
use Rattle.std.proofs.lemmas.Map.Keys.{IsDistinct-from_sorted, sorted_head, sorted_tail}
use Rattle.std.proofs.lemmas.Cmp.{eq_by_cmp_equiv}
use Rattle.std.proofs.lemmas.Map.Views.{Contains-from_lookup, lookup-from_Contains}
use Rattle.prefix_width.specs.Prefix.{Block, IsBlock, contains, covers}
use Rattle.prefix_width.specs.Longest.{longest, IsLongest}
use Rattle.prefix_width.specs.Order.{block_cmp}
use Rattle.prefix_width.proofs.PrefixLemmas.{ordered_by_length}
use Rattle.prefix_width.proofs.RangeLemmas.{covers_is_inclusion, in_run}
use Rattle.prefix_width.proofs.LongestLemmas.{longest_is}
use Rattle.module_trait.specs.Rows.{AreBlocks, IsAscending, index_of}
use Rattle.module_trait.specs.Starts.{index_at}
use Rattle.module_trait.specs.View.{row_at, IsCover, IsShorterCover, NoneCovers}
use Rattle.module_trait.proofs.KeyLemmas.{at_is, block_at}
use Rattle.module_trait.proofs.UndoLemmas.{block_total}

-- ---- lists

module _ {X : Type 0} where
  here : (x : X) (xs : List X) → Contains (x ∷ xs) x
  here x xs = Contains-append_left (x ∷ []) xs x (Contains-push [] x)

  there : (y : X) (xs : List X) (x : X) → Contains xs x → Contains (y ∷ xs) x
  there y xs x h = Contains-append_right (y ∷ []) xs x h

  kept_in : (test : X → Bool) (x : X) (xs : List X) (y : X) → Contains (filter test xs) y → Contains (filter test (x ∷ xs)) y
  kept_in test x xs y h = elim (test x) as (λ b. Contains (cond b (x ∷ filter test xs) (filter test xs)) y) [ true ↦ there x (filter test xs) y h | false ↦ h ]

  -- what passes is in what is kept
  in_filter : (test : X → Bool) (xs : List X) → All (λ x. test x ≡ true → Contains (filter test xs) x) xs
  in_filter test [] = All-nil (λ x. test x ≡ true → Contains [] x)
  in_filter test (x ∷ xs) =
      All-cons (λ y. test y ≡ true → Contains (filter test (x ∷ xs)) y) x xs
      (λ h. subst (λ (ys : List X). Contains ys x) (sym (cond-true _ _ _ h)) (here x (filter test xs)))
      (All-weaker (λ y. test y ≡ true → Contains (filter test xs) y) (λ y. test y ≡ true → Contains (filter test (x ∷ xs)) y) (λ y f h. kept_in test x xs y (f h)) xs (in_filter test xs))

-- the keys of entries that a test of keys keeps
keys_filter : (test : Block → Bool) (rows : List (Block × ℕ)) → keys_of (filter (λ r. test r.0) rows) ≡ filter test (keys_of rows)
keys_filter test [] = refl
keys_filter test (r ∷ rows) =
    (elim (test r.0) as (λ b. keys_of (cond b (r ∷ filter (λ r. test r.0) rows) (filter (λ r. test r.0) rows)) ≡ cond b (r.0 ∷ keys_of (filter (λ r. test r.0) rows)) (keys_of (filter (λ r. test r.0) rows))) [ true ↦ refl | false ↦ refl ])
    ∙ ap (λ ks. cond (test r.0) (r.0 ∷ ks) ks) (keys_filter test rows)

-- ---- rows that ascend

-- the row of a prefix that has one
row_in : (rows : List (Block × ℕ)) (q : Block) (i : ℕ) → row_at rows q ≡ Some i → Contains rows (q, i)
row_in rows q i h = Contains-from_lookup {eq = λ p k. is_at (block_cmp p) k} at_is q i rows h

sorted_cons : (k : Block) (keys : List Block) → AllByRecursion (λ y. block_cmp k y ≡ Less) keys → IsStrictlySortedBy block_cmp keys → IsStrictlySortedBy block_cmp (k ∷ keys)
unfolding IsStrictlySortedBy
sorted_cons k keys head tail = (head, tail)

-- each row is found by its prefix
pub row_found : (rows : List (Block × ℕ)) → IsAscending rows → All (λ r. row_at rows r.0 ≡ Some r.1) rows
row_found rows up =
    All-weaker (Contains rows) (λ r. row_at rows r.0 ≡ Some r.1)
    (λ r h. lookup-from_Contains {eq = eq_by_cmp block_cmp} (eq_by_cmp_equiv block_total) r.0 r.1 rows (IsDistinct-from_sorted block_cmp (keys_of rows) up) h)
    rows (All-contains_itself rows)

module _ (w : ℕ) (view : List (Block × ℕ)) (p : Block) (cover : Option (Block × ℕ)) (ip : IsBlock w p) (blocks : AreBlocks w view) (up : IsAscending view) (found : IfSome cover (IsCover w view p)) (none : IfNone cover (NoneCovers w view p)) where
  abbrev under : List (Block × ℕ)
  under = filter (λ r. covers w p r.0) view

  abbrev decisive : List (Block × ℕ)
  decisive = option_to_list cover ++ under

  block_of : (r : Block × ℕ) → Contains view r → IsBlock w r.0
  block_of r h = block_at w view r.0 blocks (ap is_some (All-contains (λ e. row_at view e.0 ≡ Some e.1) view r (row_found view up) h))

  found_at : (r : Block × ℕ) → Contains view r → row_at view r.0 ≡ Some r.1
  found_at r h = All-contains (λ e. row_at view e.0 ≡ Some e.1) view r (row_found view up) h

  -- each of these rows is a row of the view
  of_view : (r : Block × ℕ) → Contains decisive r → Contains view r
  of_view r h = elim (Contains-append_cases (option_to_list cover) under r h) [
    | inl first ↦ from_cover cover found first
    | inr later ↦ All-contains (Contains view) under r (All-filter (λ e. covers w p e.0) (Contains view) view (All-contains_itself view)) later
  ]
    where
      from_cover : (o : Option (Block × ℕ)) → IfSome o (IsCover w view p) → Contains (option_to_list o) r → Contains view r
      from_cover None f h = absurd (let k = h.1 in omega arith)
      from_cover (Some c) f h = elim (Contains-push_cases [] c r h) [
        | inl lost ↦ absurd (let k = lost.1 in omega arith)
        | inr e ↦ subst (Contains view) e (row_in view c.0 c.1 f.there)
      ]

  -- a row of the view that contains an address of the prefix is no longer than one of these that does
  abbrev Better : ℕ → Block × ℕ → Type 0
  Better a b = (r : Block × ℕ) × Contains decisive r × (contains w r.0 a ≡ true) × (b.0.len ≤ r.0.len)

  better : (a : ℕ) (b : Block × ℕ) → contains w p a ≡ true → Contains view b → contains w b.0 a ≡ true → Better a b
  better a b inside at holds = elim (cases_lt b.0.len p.len) [
    | inr long ↦
        let covered = (ordered_by_length w a p b.0 ip (block_of b at) inside holds long).0 in
        (b, Contains-append_right (option_to_list cover) under b (All-contains (λ r. covers w p r.0 ≡ true → Contains under r) view b (in_filter (λ r. covers w p r.0) view) at covered), holds, omega arith)
    | inl short ↦
        let covering = (ordered_by_length w a b.0 p (block_of b at) ip holds inside (omega arith)).0 in
        let shorter : IsShorterCover w view p b.0 = record { there = ap is_some (found_at b at); shorter = short; covering = covering } in
        by cover refl found none shorter
  ]
    where
      by : (o : Option (Block × ℕ)) → cover ≡ o → IfSome o (IsCover w view p) → IfNone o (NoneCovers w view p) → IsShorterCover w view p b.0 → Better a b
      by None e f n shorter = absurd (n b.0 shorter)
      by (Some c) e f n shorter =
          let whole : IsBlock w c.0 = block_at w view c.0 blocks (ap is_some f.there) in (
            c,
            Contains-append_left (option_to_list cover) under c (subst (λ (x : Option (Block × ℕ)). Contains (option_to_list x) c) (sym e) (Contains-push [] c)),
            (covers_is_inclusion w c.0 p whole ip).0 f.covering a inside,
            f.longest b.0 shorter,
          )

  -- so the longest match has the same index
  same_longest : (a : ℕ) → contains w p a ≡ true → index_of (longest w decisive a) ≡ index_of (longest w view a)
  same_longest a inside = by (longest w decisive a) (longest w view a) (longest_is w decisive a) (longest_is w view a)
    where
      by : (x y : Option (Block × ℕ)) → IsLongest w decisive a x → IsLongest w view a y → index_of x ≡ index_of y
      by None None h k = refl
      by None (Some b) h k =
          let r = better a b inside k.0 k.1 in
          absurd (both_ways _ (All-contains (λ row. contains w row.0 a ≡ false) decisive r.0 h r.1) r.2)
      by (Some r) None h k = absurd (both_ways _ (All-contains (λ row. contains w row.0 a ≡ false) view r k (of_view r h.0)) h.1)
      by (Some r) (Some b) h k =
          let at = of_view r h.0 in
          let up_to : r.0.len ≤ b.0.len = All-contains (λ row. contains w row.0 a ≡ true → row.0.len ≤ b.0.len) view r k.2 at h.1 in
          let m = better a b inside k.0 k.1 in
          let down_to : m.0.0.len ≤ r.0.len = All-contains (λ row. contains w row.0 a ≡ true → row.0.len ≤ r.0.len) decisive m.0 h.2 m.1 m.2 in
          let len : r.0.len ≡ b.0.len = (let l = m.3 in omega arith) in
          let same : r.0 ≡ b.0 = (ordered_by_length w a r.0 b.0 (block_of r at) (block_of b k.0) h.1 k.1 up_to).1 len in
          sym (found_at r at) ∙ ap (row_at view) same ∙ found_at b k.0

  pub same_index : (a : ℕ) → contains w p a ≡ true → index_at w decisive a ≡ index_at w view a
  same_index a inside = ap (λ o. unwrap_or o 0) (same_longest a inside)

  -- they ascend
  up_under : IsAscending under
  up_under = subst (IsStrictlySortedBy block_cmp) (sym (keys_filter (covers w p) view)) (IsStrictlySortedBy-filter block_cmp (covers w p) (keys_of view) up)

  after_cover : (c q : Block) → IsBlock w c → c.len < p.len → IsTrue (covers w c p) → covers w p q ≡ true → block_cmp c q ≡ Less
  after_cover c q ic short covering covered =
      let from : contains w c p.base ≡ true = grind (arith, nat_tests) in
      let low = in_run w c p.base ic from in
      let inside : contains w p q.base ≡ true = grind (arith, nat_tests) in
      let high = in_run w p q.base ip inside in
      let long : p.len ≤ q.len = grind (arith, nat_tests) in
      elim (cases_lt c.base q.base) [
        | inl less ↦ ap (λ o. ordering_then o (nat_cmp c.len q.len)) (sym (nat_cmp_is c.base q.base Less less))
        | inr ge ↦
            ap (λ o. ordering_then o (nat_cmp c.len q.len)) (sym (nat_cmp_is c.base q.base Equal (omega arith)))
            ∙ sym (nat_cmp_is c.len q.len Less (omega arith))
      ]

  pub up_decisive : IsAscending decisive
  up_decisive = by cover found
    where
      by : (o : Option (Block × ℕ)) → IfSome o (IsCover w view p) → IsAscending (option_to_list o ++ under)
      by None f = up_under
      by (Some c) f =
          let whole : IsBlock w c.0 = block_at w view c.0 blocks (ap is_some f.there) in
          sorted_cons c.0 (keys_of under)
          (recursion_from_All (λ y. block_cmp c.0 y ≡ Less) (keys_of under)
          (All-map (λ y. block_cmp c.0 y ≡ Less) (λ r. r.0) under
          (All-weaker (λ r. covers w p r.0 ≡ true) (λ r. block_cmp c.0 r.0 ≡ Less) (λ r h. after_cover c.0 r.0 whole f.shorter f.covering h) under (filter_passes (λ r. covers w p r.0) view))))
          up_under
