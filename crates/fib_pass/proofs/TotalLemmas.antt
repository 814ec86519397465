-- The packets of each nexthop are the hits at its number.
use Rattle.std.proofs.Common.{◌≡◌, ◌⊎◌, ℕ, zero, suc, ◌+◌, ◌-◌, ◌<◌, ◌≤◌, ◌==◌, Bool, true, false, true≢false, cond, List, [], ◌∷◌, ◌++◌, Option, Some, None, length, map, fold, refl, sym, ◌∙◌, ap, subst, arith, inl, inr, eq-eqb, ne_eqb}
use Rattle.std.specs.Prelude.{All, slice_get, unwrap_or, sum_by, if◌then◌else◌}
use Rattle.std.specs.List.{AllByRecursion, cons_option, filter_map, flat_map}
use Rattle.std.specs.List.Sorted.{IsStrictlySortedBy}
use Rattle.std.specs.Map.{keys_of, lookup, values_of}
use Rattle.std.specs.BTreeMap.{is_at}
use Rattle.std.specs.Ordering.{is_eq}
use Rattle.std.specs.declared.cmp.Ordering.TheVariants.{Less}
use Rattle.std.proofs.lemmas.Bool.{cases_eq, eqb-true}
use Rattle.std.proofs.lemmas.Bool.Decides.{nat_tests}
use Rattle.std.proofs.lemmas.Cmp.{tied_itself}
use Rattle.std.proofs.lemmas.List.{append-nil}
use Rattle.std.proofs.lemmas.List.Elements.{All-cons, All-nil, All-push, All-weaker}
use Rattle.std.proofs.lemmas.List.Sums.{fold-append}
use Rattle.std.proofs.lemmas.Option.{none-some, same_Some}
use Rattle.prefix_width.specs.Nexthop.{Hop}
use Rattle.prefix_width.specs.Order.{hop_cmp}
use Rattle.prefix_width.proofs.OrderLemmas.{hop_exact, hop_total}
use Rattle.rib_store.specs.Plan.{IsNumbering, Planned, firsts, named, number_of}
use Rattle.rib_store.proofs.LawLemmas.{numbers_lead_back}
use Rattle.counted_map.specs.Counts.{Counts, IsCounts, count_of, linked_all, times}
use Rattle.counted_map.proofs.CountMapLemmas.{IsCounts-linked_all, linked_all_at, same_counts}
use Rattle.epoch_core.specs.Closing.{readers_of}
use Rattle.epoch_core.specs.Counts.{hits_of, rising_counts}
use Rattle.epoch_core.specs.Sums as sums
use Rattle.fib_pass.specs.Totals.{all_hit, counted_hops, hop_of, hops_hit, last_count, packets_hit, packets_of}
use Rattle.fib_pass.specs.Views.{PassView}
use Rattle.fib_pass.proofs.FreshLemmas.{number_within}
use Rattle.fib_pass.proofs.MapLemmas.{same_key}
use Rattle.fib_pass.proofs.NumberLemmas.{number_of_place}

-- ---- the counts of a number

last-push : (cs : List (ℕ × ℕ)) (c : ℕ × ℕ) (p : ℕ) → last_count (cs ++ c ∷ []) p ≡ cond (c.0 == p) c.1 (last_count cs p)
last-push cs c p = fold-append (λ n x. cond (x.0 == p) x.1 n) 0 cs (c ∷ [])

last_above : (g : ℕ → ℕ) (n p : ℕ) → n ≤ p → last_count (rising_counts g n) p ≡ 0
last_above g zero p low = refl
last_above g (suc m) p low = go (g m == 0) (last_above g m p (omega arith))
  where
    go : (b : Bool) → last_count (rising_counts g m) p ≡ 0 → last_count (rising_counts g m ++ cond b [] ((m, g m) ∷ [])) p ≡ 0
    go true ih = ap (λ (x : List (ℕ × ℕ)). last_count x p) (append-nil (rising_counts g m)) ∙ ih
    go false ih = last-push (rising_counts g m) (m, g m) p ∙ ap (λ b. cond b (g m) (last_count (rising_counts g m) p)) (ne_eqb m p (λ e. omega arith)) ∙ ih

pub last_rising : (g : ℕ → ℕ) (n p : ℕ) → p < n → last_count (rising_counts g n) p ≡ g p
last_rising g zero p low = absurd (omega arith)
last_rising g (suc m) p low = go (g m == 0) refl (cases_eq m p) (last_rising g m p)
  where
    go : (b : Bool) → (g m == 0) ≡ b → (m ≡ p) ⊎ (m ≡ p → ⊥) → (p < m → last_count (rising_counts g m) p ≡ g p) → last_count (rising_counts g m ++ cond b [] ((m, g m) ∷ [])) p ≡ g p
    go true e (inl same) ih =
        let z : g m ≡ 0 = eqb-true (g m) 0 e in
        ap (λ (x : List (ℕ × ℕ)). last_count x p) (append-nil (rising_counts g m)) ∙ last_above g m p (omega arith) ∙ sym z ∙ ap g same
    go true e (inr apart) ih = ap (λ (x : List (ℕ × ℕ)). last_count x p) (append-nil (rising_counts g m)) ∙ ih (omega arith)
    go false e (inl same) ih = last-push (rising_counts g m) (m, g m) p ∙ ap (λ b. cond b (g m) (last_count (rising_counts g m) p)) (eq-eqb m p same) ∙ ap g same
    go false e (inr apart) ih = last-push (rising_counts g m) (m, g m) p ∙ ap (λ b. cond b (g m) (last_count (rising_counts g m) p)) (ne_eqb m p apart) ∙ ih (omega arith)

pub rising_within : (g : ℕ → ℕ) (n : ℕ) → All (λ c. c.0 < n) (rising_counts g n)
rising_within g zero = All-nil (λ c. c.0 < 0)
rising_within g (suc m) =
    let below : All (λ c. c.0 < suc m) (rising_counts g m) = All-weaker (λ c. c.0 < m) (λ c. c.0 < suc m) (λ c l. omega arith) (rising_counts g m) (rising_within g m) in
    go (g m == 0) below
  where
    go : (b : Bool) → All (λ c. c.0 < suc m) (rising_counts g m) → All (λ c. c.0 < suc m) (rising_counts g m ++ cond b [] ((m, g m) ∷ []))
    go true below = subst (All (λ c. c.0 < suc m)) (sym (append-nil (rising_counts g m))) below
    go false below = All-push (λ c. c.0 < suc m) (rising_counts g m) (m, g m) below (omega arith)

-- ---- the counts of a nexthop

not_there : (k : Hop) (es : List (Hop × ℕ)) → AllByRecursion (λ x. hop_cmp k x ≡ Less) (keys_of es) → lookup (is_at (hop_cmp k)) es ≡ None
not_there k [] all = refl
not_there k (e ∷ es) all = ap (λ b. cond b (Some e.1) (lookup (is_at (hop_cmp k)) es)) (ap is_eq all.0) ∙ not_there k es all.1

module _ (f : ℕ → ℕ) where
  above_counted : (k : Hop) (es : List (Hop × ℕ)) → AllByRecursion (λ x. hop_cmp k x ≡ Less) (keys_of es) → AllByRecursion (λ x. hop_cmp k x ≡ Less) (keys_of (counted_hops f es))
  above_counted k [] all = tt
  above_counted k (e ∷ es) all =
      let ih = above_counted k es all.1 in
      elim (f e.1 == 0) as (λ b. let one : Hop × ℕ = (e.0, f e.1) in AllByRecursion (λ x. hop_cmp k x ≡ Less) (keys_of (cond b (counted_hops f es) (one ∷ counted_hops f es)))) [ true ↦ ih | false ↦ (all.0, ih) ]

  sorted_counted : (es : List (Hop × ℕ)) → IsStrictlySortedBy hop_cmp (keys_of es) → IsStrictlySortedBy hop_cmp (keys_of (counted_hops f es))
  unfolding IsStrictlySortedBy
  sorted_counted [] up = tt
  sorted_counted (e ∷ es) up =
      let ih = sorted_counted es up.1 in
      let far = above_counted e.0 es up.0 in
      elim (f e.1 == 0) as (λ b. let one : Hop × ℕ = (e.0, f e.1) in IsStrictlySortedBy hop_cmp (keys_of (cond b (counted_hops f es) (one ∷ counted_hops f es)))) [ true ↦ ih | false ↦ (far, ih) ]

  some_counted : (es : List (Hop × ℕ)) → All (λ n. 1 ≤ n) (values_of (counted_hops f es))
  some_counted [] = All-nil (λ n. 1 ≤ n)
  some_counted (e ∷ es) = go (f e.1 == 0) refl (some_counted es)
    where
      go : (b : Bool) → (f e.1 == 0) ≡ b → All (λ n. 1 ≤ n) (values_of (counted_hops f es)) → All (λ n. 1 ≤ n) (values_of (cond b (counted_hops f es) ((e.0, f e.1) ∷ counted_hops f es)))
      go true z ih = ih
      go false z ih = All-cons (λ n. 1 ≤ n) (f e.1) (values_of (counted_hops f es)) (grind (arith, nat_tests)) ih

  none_counted : (q : Hop) (es : List (Hop × ℕ)) → lookup (is_at (hop_cmp q)) es ≡ None → count_of hop_cmp (counted_hops f es) q ≡ 0
  none_counted q [] none = refl
  none_counted q (e ∷ es) none = go (is_eq (hop_cmp q e.0)) refl none (none_counted q es)
    where
      go : (b : Bool) → is_eq (hop_cmp q e.0) ≡ b → cond b (Some e.1) (lookup (is_at (hop_cmp q)) es) ≡ None → (lookup (is_at (hop_cmp q)) es ≡ None → count_of hop_cmp (counted_hops f es) q ≡ 0)
          → count_of hop_cmp (cond (f e.1 == 0) (counted_hops f es) ((e.0, f e.1) ∷ counted_hops f es)) q ≡ 0
      go true h n ih = cc
      go false h n ih = elim (f e.1 == 0) as (λ b. let one : Hop × ℕ = (e.0, f e.1) in count_of hop_cmp (cond b (counted_hops f es) (one ∷ counted_hops f es)) q ≡ 0) [ true ↦ ih n | false ↦ ap (λ b. unwrap_or (cond b (Some (f e.1)) (lookup (is_at (hop_cmp q)) (counted_hops f es))) 0) h ∙ ih n ]

  -- a nexthop is counted as its number is
  some_at : (q : Hop) (p : ℕ) (es : List (Hop × ℕ)) → IsStrictlySortedBy hop_cmp (keys_of es) → lookup (is_at (hop_cmp q)) es ≡ Some p → count_of hop_cmp (counted_hops f es) q ≡ f p
  unfolding IsStrictlySortedBy
  some_at q p [] up at = absurd (none-some p at)
  some_at q p (e ∷ es) up at = go (is_eq (hop_cmp q e.0)) refl at (some_at q p es up.1) (λ same. none_counted q es (ap (λ k. lookup (is_at (hop_cmp k)) es) same ∙ not_there e.0 es up.0))
    where
      first : is_eq (hop_cmp q e.0) ≡ true → e.1 ≡ p → (b : Bool) → (f e.1 == 0) ≡ b → count_of hop_cmp (counted_hops f es) q ≡ 0 → count_of hop_cmp (cond b (counted_hops f es) ((e.0, f e.1) ∷ counted_hops f es)) q ≡ f p
      first h same true z none = none ∙ sym (eqb-true (f e.1) 0 z) ∙ ap f same
      first h same false z none = ap (λ b. unwrap_or (cond b (Some (f e.1)) (lookup (is_at (hop_cmp q)) (counted_hops f es))) 0) h ∙ ap f same

      go : (b : Bool) → is_eq (hop_cmp q e.0) ≡ b → cond b (Some e.1) (lookup (is_at (hop_cmp q)) es) ≡ Some p → (lookup (is_at (hop_cmp q)) es ≡ Some p → count_of hop_cmp (counted_hops f es) q ≡ f p)
          → (q ≡ e.0 → count_of hop_cmp (counted_hops f es) q ≡ 0) → count_of hop_cmp (cond (f e.1 == 0) (counted_hops f es) ((e.0, f e.1) ∷ counted_hops f es)) q ≡ f p
      go true h n ih none = first h (same_Some e.1 p n) (f e.1 == 0) refl (none (same_key hop_cmp hop_exact q e.0 h))
      go false h n ih none = elim (f e.1 == 0) as (λ b. let one : Hop × ℕ = (e.0, f e.1) in count_of hop_cmp (cond b (counted_hops f es) (one ∷ counted_hops f es)) q ≡ f p) [ true ↦ ih n | false ↦ ap (λ b. unwrap_or (cond b (Some (f e.1)) (lookup (is_at (hop_cmp q)) (counted_hops f es))) 0) h ∙ ih n ]

-- ---- the hits of a nexthop

module _ {w : ℕ} (plan : Planned w) where
  hop_place : (n : ℕ) (h : Hop) → hop_of plan n ≡ Some h → number_of plan h ≡ Some n
  hop_place zero h at = absurd (none-some h at)
  hop_place (suc k) h at = let z : k + 1 ≡ suc k = omega arith in number_of_place plan k h at ∙ ap (λ x. Some x) z

  place_hop : (p : ℕ) (q : Hop) → number_of plan q ≡ Some p → hop_of plan p ≡ Some q
  place_hop zero q is = let some = (numbers_lead_back w plan q 0 is).0 in absurd (omega arith)
  place_hop (suc k) q is = let z : suc k - 1 ≡ k = omega arith in ap (slice_get (firsts (named plan))) (sym z) ∙ (numbers_lead_back w plan q (suc k) is).1

  times_here : (q : Hop) (p : ℕ) → number_of plan q ≡ Some p → (hits : List ℕ) → times hop_cmp q (filter_map (hop_of plan) hits) ≡ sums.times p hits
  times_here q p is [] = refl
  times_here q p is (n ∷ ns) = go (hop_of plan n) refl (cases_eq n p) (times_here q p is ns)
    where
      go : (o : Option Hop) → hop_of plan n ≡ o → (n ≡ p) ⊎ (n ≡ p → ⊥) → times hop_cmp q (filter_map (hop_of plan) ns) ≡ sums.times p ns
          → times hop_cmp q (cons_option o (filter_map (hop_of plan) ns)) ≡ cond (n == p) (sums.times p ns + 1) (sums.times p ns)
      go None e (inl same) ih = absurd (none-some q (sym e ∙ ap (hop_of plan) same ∙ place_hop p q is))
      go None e (inr apart) ih = rw (ne_eqb n p apart) ih
      go (Some h) e (inl same) ih =
          let one : h ≡ q = same_Some h q (sym e ∙ ap (hop_of plan) same ∙ place_hop p q is) in
          let here : is_eq (hop_cmp q h) ≡ true = ap (λ x. is_eq (hop_cmp q x)) one ∙ ap is_eq (tied_itself hop_total q) in
          rw (here, eq-eqb n p same) (omega arith)
      go (Some h) e (inr apart) ih = rw (ne_eqb n p apart) (other (is_eq (hop_cmp q h)) refl)
        where
          other : (b : Bool) → is_eq (hop_cmp q h) ≡ b → cond b 1 0 + times hop_cmp q (filter_map (hop_of plan) ns) ≡ sums.times p ns
          other true g =
              let one : q ≡ h = same_key hop_cmp hop_exact q h g in
              absurd (apart (same_Some n p (sym (hop_place n h e) ∙ ap (number_of plan) (sym one) ∙ is)))
          other false g = omega arith

  times_none : (q : Hop) → number_of plan q ≡ None → (hits : List ℕ) → times hop_cmp q (filter_map (hop_of plan) hits) ≡ 0
  times_none q is [] = refl
  times_none q is (n ∷ ns) = go (hop_of plan n) refl (times_none q is ns)
    where
      go : (o : Option Hop) → hop_of plan n ≡ o → times hop_cmp q (filter_map (hop_of plan) ns) ≡ 0 → times hop_cmp q (cons_option o (filter_map (hop_of plan) ns)) ≡ 0
      go None e ih = ih
      go (Some h) e ih = other (is_eq (hop_cmp q h)) refl
        where
          other : (b : Bool) → is_eq (hop_cmp q h) ≡ b → cond b 1 0 + times hop_cmp q (filter_map (hop_of plan) ns) ≡ 0
          other true g =
              let one : q ≡ h = same_key hop_cmp hop_exact q h g in
              absurd (none-some n (sym is ∙ ap (number_of plan) one ∙ hop_place n h e))
          other false g = omega arith

  times-append : (q : Hop) (xs ys : List Hop) → times hop_cmp q (xs ++ ys) ≡ times hop_cmp q xs + times hop_cmp q ys
  times-append q [] ys = omega arith
  times-append q (x ∷ xs) ys = let ih = times-append q xs ys in omega arith

  all_here : (q : Hop) (p : ℕ) → number_of plan q ≡ Some p → (passes : List (PassView w)) → times hop_cmp q (all_hit plan passes) ≡ hits_of p (readers_of (map (λ x. x.seat) passes))
  all_here q p is [] = refl
  all_here q p is (x ∷ passes) =
      let ih = all_here q p is passes in
      let here = times_here q p is x.seat.own.hits in
      times-append q (hops_hit plan x) (all_hit plan passes) ∙ omega arith

  all_none : (q : Hop) → number_of plan q ≡ None → (passes : List (PassView w)) → times hop_cmp q (all_hit plan passes) ≡ 0
  all_none q is [] = refl
  all_none q is (x ∷ passes) =
      let ih = all_none q is passes in
      let here = times_none q is x.seat.own.hits in
      times-append q (hops_hit plan x) (all_hit plan passes) ∙ omega arith

  none_counts : IsCounts hop_cmp []
  unfolding IsStrictlySortedBy
  none_counts = record { order = tt; some = All-nil (λ n. 1 ≤ n) }

  -- the nexthops in order, each by its number's hits, are all nexthops that were hit, with how often
  pub counted_all : (f : ℕ → ℕ) (order : List (Hop × ℕ)) (passes : List (PassView w)) → IsNumbering (firsts (named plan)) order → IsStrictlySortedBy hop_cmp (keys_of order)
      → ((p : ℕ) → p ≤ length (firsts (named plan)) → f p ≡ hits_of p (readers_of (map (λ x. x.seat) passes))) → counted_hops f order ≡ linked_all hop_cmp [] (all_hit plan passes)
  counted_all f order passes numbering up hits =
      same_counts hop_cmp hop_total hop_exact (counted_hops f order) (linked_all hop_cmp [] (all_hit plan passes))
      (record { order = sorted_counted f order up; some = some_counted f order })
      (IsCounts-linked_all hop_cmp hop_total [] (all_hit plan passes) none_counts)
      (λ q. each q (number_of plan q) refl)
    where
      each : (q : Hop) (o : Option ℕ) → number_of plan q ≡ o → count_of hop_cmp (counted_hops f order) q ≡ count_of hop_cmp (linked_all hop_cmp [] (all_hit plan passes)) q
      each q (Some p) is =
          let within = number_within 2 0 plan q p is in
          let low : p ≤ length (firsts (named plan)) = within.1 in
          let linked = linked_all_at hop_cmp hop_total hop_exact [] (all_hit plan passes) q in
          let whole : times hop_cmp q (all_hit plan passes) ≡ count_of hop_cmp (linked_all hop_cmp [] (all_hit plan passes)) q = omega arith in
          some_at f q p order up (numbering q ∙ is) ∙ hits p low ∙ sym (all_here q p is passes) ∙ whole
      each q None is =
          let linked = linked_all_at hop_cmp hop_total hop_exact [] (all_hit plan passes) q in
          let whole : times hop_cmp q (all_hit plan passes) ≡ count_of hop_cmp (linked_all hop_cmp [] (all_hit plan passes)) q = omega arith in
          none_counted f q order (numbering q ∙ is) ∙ sym (all_none q is passes) ∙ whole

  -- each number in the order is within the plan's
  entries_hold : (P : ℕ → Type 0) (es : List (Hop × ℕ)) → IsStrictlySortedBy hop_cmp (keys_of es) → ((h : Hop) (p : ℕ) → lookup (is_at (hop_cmp h)) es ≡ Some p → P p) → All (λ e. P e.1) es
  unfolding IsStrictlySortedBy
  entries_hold P [] up each = All-nil (λ e. P e.1)
  entries_hold P (e ∷ es) up each =
      All-cons (λ x. P x.1) e es
      (each e.0 e.1 (ap (λ b. cond b (Some e.1) (lookup (is_at (hop_cmp e.0)) es)) (ap is_eq (tied_itself hop_total e.0))))
      (entries_hold P es up.1 (λ h p at. each h p (later h p at (is_eq (hop_cmp h e.0)) refl)))
    where
      later : (h : Hop) (p : ℕ) → lookup (is_at (hop_cmp h)) es ≡ Some p → (b : Bool) → is_eq (hop_cmp h e.0) ≡ b → cond b (Some e.1) (lookup (is_at (hop_cmp h)) es) ≡ Some p
      later h p at false g = at
      later h p at true g =
          let one : h ≡ e.0 = same_key hop_cmp hop_exact h e.0 g in
          absurd (none-some p (sym (not_there e.0 es up.0) ∙ ap (λ k. lookup (is_at (hop_cmp k)) es) (sym one) ∙ at))

  pub order_within : (n : ℕ) (order : List (Hop × ℕ)) → n ≡ length (firsts (named plan)) + 1 → IsNumbering (firsts (named plan)) order → IsStrictlySortedBy hop_cmp (keys_of order) → All (λ e. e.1 < n) order
  order_within n order e numbering up = entries_hold (λ p. p < n) order up (λ h p at. let within = number_within 2 0 plan h p (sym (numbering h) ∙ at) in omega (arith, within.1))
