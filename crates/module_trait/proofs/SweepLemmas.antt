-- A row that comes after others adds its two starts, and leaves the cells outside it as they are.
use Rattle.std.proofs.Common.{◌≡◌, ◌⊎◌, ℕ, ◌+◌, ◌-◌, ◌^◌, ◌<◌, ◌≤◌, ◌==◌, nat_lt, true, false, cond, List, [], ◌∷◌, ◌++◌, Option, Some, None, refl, sym, ap, ◌∙◌, arith, inl, inr, subst, length, unwrap_or, All, get_or, take, drop, drop-cons, append_assoc, ltb, add-one}
use Rattle.std.specs.declared.cmp.Ordering.TheVariants.{Less, Equal, Greater}
use Rattle.std.specs.BTreeSet.{insert_key}
use Rattle.std.specs.Cmp.{nat_cmp_is}
use Rattle.std.specs.List.{AllByRecursion}
use Rattle.std.specs.Map.{keys_of}
use Rattle.std.specs.Ordering.{nat_cmp, ordering_then}
use Rattle.std.proofs.lemmas.Bool.{cases_Bool, cases_eq, cases_lt, cases_order, eqb-true, eq-eqb, lt-ltb, ltb-true, cond-true, cond-false}
use Rattle.std.proofs.lemmas.List.{map-append, take-append-drop}
use Rattle.std.proofs.lemmas.List.Elements.{All-from_recursion, recursion_from_All, All-push}
use Rattle.std.proofs.lemmas.Map.Keys.{sorted_head, sorted_tail}
use Rattle.std.proofs.lemmas.Nat.{pow_pos}
use Rattle.prefix_width.specs.Prefix.{Block, IsBlock, contains, head_of}
use Rattle.prefix_width.specs.Longest.{longest, longer, only_if_in}
use Rattle.prefix_width.specs.Order.{block_cmp}
use Rattle.prefix_width.proofs.PrefixLemmas.{head_of_fewer}
use Rattle.module_trait.specs.Rows.{IsAscending, index_of}
use Rattle.module_trait.proofs.BlockLemmas.{in_run, from_run}
use Rattle.module_trait.proofs.MatchLemmas.{longest-push, longer-none}
use Rattle.module_trait.proofs.UnderLemmas.{no_shorter}
use Rattle.module_trait.specs.Starts.{AreRight, end_of, index_at, starts_of, IsUp, IsIn}
use Rattle.module_trait.specs.Sweep.{IsSweep, ComesAfter, IsPast, begun, with_end}
use Rattle.module_trait.proofs.CentralLaw.{NoneBetween, same_between}
use Rattle.module_trait.proofs.StartLemmas.{IsEdge, in-starts, from-starts, starts-push, up-starts}
use Rattle.module_trait.proofs.UpLemmas.{up-split, in-all, in-append, insert-past, insert-first, insert-there, all-append, all-left, all-right, all-weaker, all-both}
use Rattle.module_trait.proofs.BeforeLemmas.{up-right, in-right, all-from-in, all-keys, keys-append, before_cases, edges_far, index_kept, index_begun}

-- ---- one more row

-- the cells before the row's own
abbrev kept : List (ℕ × ℕ) → ℕ × ℕ → ℕ → List (ℕ × ℕ)
kept most last start = cond (last.0 == start) most (most ++ last ∷ [])

-- the cells at hand, when the sweep has come to the row
pub record IsReady (w : ℕ) (front : List (Block × ℕ)) (r : Block × ℕ) (most : List (ℕ × ℕ)) (last : ℕ × ℕ) (ahead : List (ℕ × ℕ)) : Type 0 where
  pub blocks : AllByRecursion (IsBlock w) (keys_of front)
  pub block : IsBlock w r.0
  pub before : AllByRecursion (λ q. block_cmp q.0 r.0 ≡ Less) front
  pub starts : keys_of most ++ last.0 ∷ keys_of ahead ≡ starts_of w front
  pub first : AllByRecursion (λ c. c.1 ≡ index_at w front c.0) most
  pub middle : last.1 ≡ index_at w front last.0
  pub later : AllByRecursion (λ c. c.1 ≡ index_at w front c.0) ahead
  pub reached : last.0 ≤ r.0.base
  pub past : IsPast r.0.base ahead

module _ (w : ℕ) (front : List (Block × ℕ)) (r : Block × ℕ) (most : List (ℕ × ℕ)) (last : ℕ × ℕ) (ahead : List (ℕ × ℕ)) (ready : IsReady w front r most last ahead) where
  up : IsUp (keys_of most ++ last.0 ∷ keys_of ahead)
  up = subst IsUp (sym ready.starts) (up-starts w front)

  split : AllByRecursion (λ x. x < last.0) (keys_of most) × AllByRecursion (λ z. last.0 < z) (keys_of ahead)
  split = up-split (keys_of most) last.0 (keys_of ahead) up

  up-ahead : IsUp (keys_of ahead)
  up-ahead = (up-right (keys_of most) (last.0 ∷ keys_of ahead) up).1

  all_past : AllByRecursion (λ t. r.0.base < t) (keys_of ahead)
  all_past = go ahead ready.past up-ahead
    where
      go : (cells : List (ℕ × ℕ)) → IsPast r.0.base cells → IsUp (keys_of cells) → AllByRecursion (λ t. r.0.base < t) (keys_of cells)
      go [] past up = tt
      go (c ∷ cells) past up = (past, all-weaker (λ t. c.0 < t) (λ t. r.0.base < t) (λ t h. omega (arith, h, past)) (keys_of cells) up.0)

  -- every cell ahead is at the row's end or past it
  far : AllByRecursion (λ t. end_of w r.0 ≤ t) (keys_of ahead)
  far = all-from-in (λ t. end_of w r.0 ≤ t) (keys_of ahead) (λ t is.
      let over = in-all (λ t. r.0.base < t) (keys_of ahead) t all_past is in
      let start = from-starts w front t (subst (IsIn t) ready.starts (in-right (keys_of most) (last.0 ∷ keys_of ahead) t (inr is))) in
      elim start [
        | inl zero ↦ absurd (omega (arith, zero, over))
        | inr edge ↦ edges_far w front r t ready.blocks ready.block ready.before edge over
      ])

  front_below : AllByRecursion (λ t. t < r.0.base) (keys_of (kept most last r.0.base))
  front_below = elim (cases_Bool (last.0 == r.0.base)) [
    | inl h ↦
        let e = eqb-true _ _ h in
        subst (λ xs. AllByRecursion (λ t. t < r.0.base) (keys_of xs)) (sym (cond-true _ _ _ h)) (all-weaker (λ t. t < last.0) (λ t. t < r.0.base) (λ t k. omega (arith, k, e)) (keys_of most) split.0)
    | inr h ↦
        let reached = ready.reached in
        let less : last.0 < r.0.base = elim (cases_eq last.0 r.0.base) [ inl e ↦ absurd (let t = eq-eqb _ _ e in let f = sym t ∙ h in cc) | inr n ↦ omega (arith, reached, n) ] in
        let all = all-append (λ t. t < r.0.base) (keys_of most) (last.0 ∷ []) (all-weaker (λ t. t < last.0) (λ t. t < r.0.base) (λ t k. omega (arith, k, less)) (keys_of most) split.0) (less, tt) in
        subst (λ xs. AllByRecursion (λ t. t < r.0.base) (keys_of xs)) (sym (cond-false _ _ _ h)) (subst (AllByRecursion (λ t. t < r.0.base)) (sym (keys-append most (last ∷ []))) all)
  ]

  -- the starts with the row's address
  starts_begun : insert_key nat_cmp (starts_of w front) r.0.base ≡ keys_of (kept most last r.0.base) ++ r.0.base ∷ keys_of ahead
  starts_begun = elim (cases_Bool (last.0 == r.0.base)) [
    | inl h ↦
        let e = eqb-true _ _ h in
        let below = all-weaker (λ t. t < last.0) (λ t. t < r.0.base) (λ t k. omega (arith, k, e)) (keys_of most) split.0 in
        ap (λ xs. insert_key nat_cmp xs r.0.base) (sym ready.starts)
        ∙ insert-past r.0.base (keys_of most) (last.0 ∷ keys_of ahead) below
        ∙ ap (λ n. keys_of most ++ insert_key nat_cmp (n ∷ keys_of ahead) r.0.base) e
        ∙ ap (λ xs. keys_of most ++ xs) (insert-there r.0.base (keys_of ahead))
        ∙ ap (λ xs. keys_of xs ++ r.0.base ∷ keys_of ahead) (sym (cond-true _ _ _ h))
    | inr h ↦
        let all : AllByRecursion (λ t. t < r.0.base) (keys_of (most ++ last ∷ [])) = subst (λ xs. AllByRecursion (λ t. t < r.0.base) (keys_of xs)) (cond-false _ _ _ h) front_below in
        ap (λ xs. insert_key nat_cmp xs r.0.base) (sym ready.starts ∙ sym (append_assoc (keys_of most) (last.0 ∷ []) (keys_of ahead)) ∙ ap (λ xs. xs ++ keys_of ahead) (sym (keys-append most (last ∷ []))))
        ∙ insert-past r.0.base (keys_of (most ++ last ∷ [])) (keys_of ahead) all
        ∙ ap (λ xs. keys_of (most ++ last ∷ []) ++ xs) (insert-first r.0.base (keys_of ahead) all_past)
        ∙ ap (λ xs. keys_of xs ++ r.0.base ∷ keys_of ahead) (sym (cond-false _ _ _ h))
  ]

  -- the cells ahead with the row's end have one more start
  ends_ahead : (outer : ℕ) → insert_key nat_cmp (keys_of ahead) (end_of w r.0) ≡ keys_of (with_end ahead (end_of w r.0) outer)
  ends_ahead outer = go ahead far up-ahead
    where
      go : (cells : List (ℕ × ℕ)) → AllByRecursion (λ t. end_of w r.0 ≤ t) (keys_of cells) → IsUp (keys_of cells) → insert_key nat_cmp (keys_of cells) (end_of w r.0) ≡ keys_of (with_end cells (end_of w r.0) outer)
      go [] far up = refl
      go (c ∷ cells) far up = elim (cases_Bool (c.0 == end_of w r.0)) [
        | inl h ↦
            let e = eqb-true _ _ h in
            ap (λ n. insert_key nat_cmp (n ∷ keys_of cells) (end_of w r.0)) e ∙ insert-there (end_of w r.0) (keys_of cells) ∙ ap (λ n. n ∷ keys_of cells) (sym e)
            ∙ ap keys_of (sym (cond-true _ _ _ h))
        | inr h ↦
            let low = far.0 in
            let less : end_of w r.0 < c.0 = elim (cases_eq c.0 (end_of w r.0)) [ inl e ↦ absurd (let t = eq-eqb _ _ e in let f = sym t ∙ h in cc) | inr n ↦ omega (arith, low, n) ] in
            insert-first (end_of w r.0) (keys_of (c ∷ cells)) (less, all-weaker (λ t. c.0 < t) (λ t. end_of w r.0 < t) (λ t k. omega (arith, k, less)) (keys_of cells) up.0)
            ∙ ap keys_of (sym (cond-false _ _ _ h))
      ]

  -- the new cells' starts are those of the rows with this one
  pub starts_placed : (index : ℕ) (ahead' : List (ℕ × ℕ)) (outer : ℕ) → ahead' ≡ cond (nat_lt (end_of w r.0) (2 ^ w)) (with_end ahead (end_of w r.0) outer) ahead → keys_of (begun most last r.0.base index ++ ahead') ≡ starts_of w (front ++ r ∷ [])
  starts_placed index ahead' outer is =
      let before = kept most last r.0.base in
      let pos = pow_pos (w - r.0.len) in
      let cut : keys_of (begun most last r.0.base index ++ ahead') ≡ keys_of before ++ r.0.base ∷ keys_of ahead' =
      keys-append (before ++ (r.0.base, index) ∷ []) ahead' ∙ ap (λ xs. xs ++ keys_of ahead') (keys-append before ((r.0.base, index) ∷ [])) ∙ append_assoc (keys_of before) (r.0.base ∷ []) (keys_of ahead') in
      cut ∙ sym (starts-push w front r ∙ elim (cases_Bool (nat_lt (end_of w r.0) (2 ^ w))) [
        | inl h ↦
            let all = all-append (λ t. t < end_of w r.0) (keys_of before) (r.0.base ∷ []) (all-weaker (λ t. t < r.0.base) (λ t. t < end_of w r.0) (λ t k. omega (arith, k, pos)) (keys_of before) front_below) (omega (arith, pos), tt) in
            cond-true _ _ _ h
            ∙ ap (λ xs. insert_key nat_cmp xs (end_of w r.0)) (starts_begun ∙ sym (append_assoc (keys_of before) (r.0.base ∷ []) (keys_of ahead)))
            ∙ insert-past (end_of w r.0) (keys_of before ++ r.0.base ∷ []) (keys_of ahead) all
            ∙ append_assoc (keys_of before) (r.0.base ∷ []) (insert_key nat_cmp (keys_of ahead) (end_of w r.0))
            ∙ ap (λ xs. keys_of before ++ r.0.base ∷ xs) (ends_ahead outer ∙ ap keys_of (sym (is ∙ cond-true _ _ _ h)))
        | inr h ↦ cond-false _ _ _ h ∙ starts_begun ∙ ap (λ xs. keys_of before ++ r.0.base ∷ keys_of xs) (sym (is ∙ cond-false _ _ _ h))
      ])

  first_right : AllByRecursion (λ c. c.1 ≡ index_at w (front ++ r ∷ []) c.0) (kept most last r.0.base)
  first_right =
      let old : AllByRecursion (λ c. c.1 ≡ index_at w front c.0) (kept most last r.0.base) = elim (last.0 == r.0.base) as (λ b. AllByRecursion (λ (c : ℕ × ℕ). c.1 ≡ index_at w front c.0) (cond b most (most ++ last ∷ []))) [
        | true ↦ ready.first
        | false ↦ all-append (λ c. c.1 ≡ index_at w front c.0) most (last ∷ []) ready.first (ready.middle, tt)
      ] in
      all-both (λ c. c.1 ≡ index_at w front c.0) (λ c. c.0 < r.0.base) (λ c. c.1 ≡ index_at w (front ++ r ∷ []) c.0)
      (λ c e h. e ∙ sym (index_kept w front r c.0 ready.block (inl h)))
      (kept most last r.0.base) old (all-keys (λ t. t < r.0.base) (kept most last r.0.base) front_below)

  later_right : AllByRecursion (λ c. c.1 ≡ index_at w (front ++ r ∷ []) c.0) ahead
  later_right =
      all-both (λ c. c.1 ≡ index_at w front c.0) (λ c. end_of w r.0 ≤ c.0) (λ c. c.1 ≡ index_at w (front ++ r ∷ []) c.0)
      (λ c e h. e ∙ sym (index_kept w front r c.0 ready.block (inr h)))
      ahead ready.later (all-keys (λ t. end_of w r.0 ≤ t) ahead far)

  -- at the row's end the outer index comes back, where no start is there yet
  end_right : end_of w r.0 < 2 ^ w → AllByRecursion (λ t. end_of w r.0 < t) (keys_of ahead) → last.1 ≡ index_at w (front ++ r ∷ []) (end_of w r.0)
  end_right fits over =
      let pos = pow_pos (w - r.0.len) in
      let reached = ready.reached in
      let none : NoneBetween w front last.0 (end_of w r.0) = λ t start. elim (in-append (keys_of most) (last.0 ∷ keys_of ahead) t (subst (IsIn t) (sym ready.starts) (in-starts w front t start))) [
        | inl before ↦ inl (let k = in-all (λ x. x < last.0) (keys_of most) t split.0 before in omega (arith, k))
        | inr rest ↦ elim rest [
          | inl e ↦ inl (omega (arith, e))
          | inr behind ↦ inr (in-all (λ x. end_of w r.0 < x) (keys_of ahead) t over behind)
        ]
      ] in
      ready.middle
      ∙ ap (λ o. unwrap_or (index_of o) 0) (sym (same_between w front last.0 (end_of w r.0) (All-from_recursion (IsBlock w) (keys_of front) ready.blocks) (omega (arith, reached, pos)) fits none))
      ∙ sym (index_kept w front r (end_of w r.0) ready.block (inr (omega arith)))

  ends_right : end_of w r.0 < 2 ^ w → AllByRecursion (λ c. c.1 ≡ index_at w (front ++ r ∷ []) c.0) (with_end ahead (end_of w r.0) last.1)
  ends_right fits = go ahead far up-ahead later_right (end_right fits)
    where
      go : (cells : List (ℕ × ℕ)) → AllByRecursion (λ t. end_of w r.0 ≤ t) (keys_of cells) → IsUp (keys_of cells) → AllByRecursion (λ c. c.1 ≡ index_at w (front ++ r ∷ []) c.0) cells → (AllByRecursion (λ t. end_of w r.0 < t) (keys_of cells) → last.1 ≡ index_at w (front ++ r ∷ []) (end_of w r.0)) → AllByRecursion (λ c. c.1 ≡ index_at w (front ++ r ∷ []) c.0) (with_end cells (end_of w r.0) last.1)
      go [] far up right end = (end tt, tt)
      go (c ∷ cells) far up right end = elim (cases_Bool (c.0 == end_of w r.0)) [
        | inl h ↦ subst (AllByRecursion (λ c. c.1 ≡ index_at w (front ++ r ∷ []) c.0)) (sym (cond-true _ _ _ h)) right
        | inr h ↦
            let low = far.0 in
            let less : end_of w r.0 < c.0 = elim (cases_eq c.0 (end_of w r.0)) [ inl e ↦ absurd (let t = eq-eqb _ _ e in let f = sym t ∙ h in cc) | inr n ↦ omega (arith, low, n) ] in
            let over = all-weaker (λ t. c.0 < t) (λ t. end_of w r.0 < t) (λ t k. omega (arith, k, less)) (keys_of cells) up.0 in
            subst (AllByRecursion (λ c. c.1 ≡ index_at w (front ++ r ∷ []) c.0)) (sym (cond-false _ _ _ h)) (end (less, over), right)
      ]

  -- and each new cell has the index at its start
  pub right_placed : (ahead' : List (ℕ × ℕ)) → ahead' ≡ cond (nat_lt (end_of w r.0) (2 ^ w)) (with_end ahead (end_of w r.0) last.1) ahead → AllByRecursion (λ c. c.1 ≡ index_at w (front ++ r ∷ []) c.0) (begun most last r.0.base r.1 ++ ahead')
  right_placed ahead' is =
      let R : ℕ × ℕ → Type 0 = λ c. c.1 ≡ index_at w (front ++ r ∷ []) c.0 in
      let before = kept most last r.0.base in
      let begins = all-append (λ (c : ℕ × ℕ). c.1 ≡ index_at w (front ++ r ∷ []) c.0) before ((r.0.base, r.1) ∷ []) first_right (index_begun w front r ready.blocks ready.block ready.before, tt) in
      let ends : AllByRecursion (λ (c : ℕ × ℕ). c.1 ≡ index_at w (front ++ r ∷ []) c.0) ahead' = elim (cases_Bool (nat_lt (end_of w r.0) (2 ^ w))) [
        | inl h ↦ subst (AllByRecursion (λ c. c.1 ≡ index_at w (front ++ r ∷ []) c.0)) (sym (is ∙ cond-true _ _ _ h)) (ends_right (ltb-true (end_of w r.0) (2 ^ w) h))
        | inr h ↦ subst (AllByRecursion (λ c. c.1 ≡ index_at w (front ++ r ∷ []) c.0)) (sym (is ∙ cond-false _ _ _ h)) later_right
      ] in
      all-append (λ (c : ℕ × ℕ). c.1 ≡ index_at w (front ++ r ∷ []) c.0) (before ++ (r.0.base, r.1) ∷ []) ahead' begins ends

  -- the cells up to the sweep's address are at the row's address or before
  pub reached_placed : (index t : ℕ) → r.0.base ≤ t → AllByRecursion (λ c. c.0 ≤ t) (begun most last r.0.base index)
  reached_placed index t h =
      all-append (λ (c : ℕ × ℕ). c.0 ≤ t) (kept most last r.0.base) ((r.0.base, index) ∷ [])
      (all-weaker (λ (c : ℕ × ℕ). c.0 < r.0.base) (λ (c : ℕ × ℕ). c.0 ≤ t) (λ c k. omega (arith, k, h)) (kept most last r.0.base) (all-keys (λ t. t < r.0.base) (kept most last r.0.base) front_below))
      (h, tt)

-- the address of a row that comes after others is no less than theirs
bases_before : (front : List (Block × ℕ)) (r : Block × ℕ) → AllByRecursion (λ q. block_cmp q.0 r.0 ≡ Less) front → AllByRecursion (λ q. q.0.base ≤ r.0.base) front
bases_before [] r before = tt
bases_before (q ∷ front) r before = (elim (before_cases q.0 r.0 before.0) [ inl less ↦ omega (arith, less) | inr same ↦ (let e = same.0 in omega (arith, e)) ], bases_before front r before.1)

-- so every cell passed on the way to it is up to it
pub reaches : (w : ℕ) (front : List (Block × ℕ)) (cells ahead : List (ℕ × ℕ)) (r : Block × ℕ) → IsSweep w front cells ahead → ComesAfter front r → All (λ c. c.0 ≤ r.0.base) cells
reaches w front cells ahead r sweep after =
    sweep.reached r.0.base (All-from_recursion (λ q. q.0.base ≤ r.0.base) front (bases_before front r (recursion_from_All (λ q. block_cmp q.0 r.0 ≡ Less) front after)))

-- one more row is placed
pub placed : (w : ℕ) (front : List (Block × ℕ)) (r : Block × ℕ) (cells ahead most ahead1 cells2 ahead2 : List (ℕ × ℕ)) (last : ℕ × ℕ) → IsSweep w front cells ahead → ComesAfter front r → IsBlock w r.0 → (most ++ last ∷ []) ++ ahead1 ≡ cells ++ ahead → All (λ c. c.0 ≤ r.0.base) (most ++ last ∷ []) → IsPast r.0.base ahead1 → cells2 ≡ begun most last r.0.base r.1 → ahead2 ≡ cond (nat_lt (end_of w r.0) (2 ^ w)) (with_end ahead1 (end_of w r.0) last.1) ahead1 → IsSweep w (front ++ r ∷ []) cells2 ahead2
placed w front r cells ahead most ahead1 cells2 ahead2 last sweep after block whole below past is2 is3 =
    let right : AllByRecursion (λ c. c.1 ≡ index_at w front c.0) ((most ++ last ∷ []) ++ ahead1) = subst (AllByRecursion (λ c. c.1 ≡ index_at w front c.0)) (sym whole) (recursion_from_All (λ c. c.1 ≡ index_at w front c.0) (cells ++ ahead) sweep.right) in
    let left = all-left (λ (c : ℕ × ℕ). c.1 ≡ index_at w front c.0) (most ++ last ∷ []) ahead1 right in
    let starts : keys_of most ++ last.0 ∷ keys_of ahead1 ≡ starts_of w front =
    sym (keys-append (most ++ last ∷ []) ahead1 ∙ ap (λ xs. xs ++ keys_of ahead1) (keys-append most (last ∷ [])) ∙ append_assoc (keys_of most) (last.0 ∷ []) (keys_of ahead1)) ∙ ap keys_of whole ∙ sweep.starts in
    let low = (all-right (λ (c : ℕ × ℕ). c.0 ≤ r.0.base) most (last ∷ []) (recursion_from_All (λ (c : ℕ × ℕ). c.0 ≤ r.0.base) (most ++ last ∷ []) below)).0 in
    let ready : IsReady w front r most last ahead1 = record {
      blocks = recursion_from_All (IsBlock w) (keys_of front) sweep.blocks;
      block = block;
      before = recursion_from_All (λ q. block_cmp q.0 r.0 ≡ Less) front after;
      starts = starts;
      first = all-left (λ (c : ℕ × ℕ). c.1 ≡ index_at w front c.0) most (last ∷ []) left;
      middle = (all-right (λ (c : ℕ × ℕ). c.1 ≡ index_at w front c.0) most (last ∷ []) left).0;
      later = all-right (λ (c : ℕ × ℕ). c.1 ≡ index_at w front c.0) (most ++ last ∷ []) ahead1 right;
      reached = low;
      past = past;
    } in
    record {
      blocks = subst (All (IsBlock w)) (sym (map-append (λ e. e.0) front (r ∷ []))) (All-push (IsBlock w) (keys_of front) r.0 sweep.blocks block);
      starts = ap (λ xs. keys_of (xs ++ ahead2)) is2 ∙ starts_placed w front r most last ahead1 ready r.1 ahead2 last.1 is3;
      right = subst (λ xs. AreRight w (front ++ r ∷ []) (xs ++ ahead2)) (sym is2) (All-from_recursion (λ c. c.1 ≡ index_at w (front ++ r ∷ []) c.0) (begun most last r.0.base r.1 ++ ahead2) (right_placed w front r most last ahead1 ready ahead2 is3));
      reached = λ t bases. subst (All (λ c. c.0 ≤ t)) (sym is2) (All-from_recursion (λ (c : ℕ × ℕ). c.0 ≤ t) (begun most last r.0.base r.1) (reached_placed w front r most last ahead1 ready r.1 t ((all-right (λ (q : Block × ℕ). q.0.base ≤ t) front (r ∷ []) (recursion_from_All (λ (q : Block × ℕ). q.0.base ≤ t) (front ++ r ∷ []) bases)).0)));
    }

-- each row of an ascending list comes after those before it
pub comes_after : (rows : List (Block × ℕ)) (i : ℕ) (d : Block × ℕ) → IsAscending rows → i < length rows → ComesAfter (take i rows) (get_or rows i d)
comes_after rows i d ascending inside =
    All-from_recursion (λ q. block_cmp q.0 (get_or rows i d).0 ≡ Less) (take i rows) (go (take i rows) (get_or rows i d) (drop (i + 1) rows) (subst IsAscending (sym whole) ascending))
  where
    whole : take i rows ++ get_or rows i d ∷ drop (i + 1) rows ≡ rows
    whole = ap (λ xs. take i rows ++ xs) (sym (drop-cons rows i d inside ∙ ap (λ n. get_or rows i d ∷ drop n rows) (sym (add-one i)))) ∙ take-append-drop i rows

    first : (p : Block) (xs : List (Block × ℕ)) (r : Block × ℕ) (ys : List (Block × ℕ)) → AllByRecursion (λ q. block_cmp p q ≡ Less) (keys_of (xs ++ r ∷ ys)) → block_cmp p r.0 ≡ Less
    first p [] r ys all = all.0
    first p (x ∷ xs) r ys all = first p xs r ys all.1

    go : (xs : List (Block × ℕ)) (r : Block × ℕ) (ys : List (Block × ℕ)) → IsAscending (xs ++ r ∷ ys) → AllByRecursion (λ q. block_cmp q.0 r.0 ≡ Less) xs
    go [] r ys sorted = tt
    go (x ∷ xs) r ys sorted = (first x.0 xs r ys (sorted_head block_cmp x.0 (keys_of (xs ++ r ∷ ys)) sorted), go xs r ys (sorted_tail block_cmp x.0 (keys_of (xs ++ r ∷ ys)) sorted))

-- before the first row there is the cell at 0
pub begins : (w : ℕ) → IsSweep w [] ((0, 0) ∷ []) []
begins w = record {
  blocks = All-from_recursion (IsBlock w) [] tt;
  starts = refl;
  right = All-from_recursion (λ c. c.1 ≡ index_at w [] c.0) ((0, 0) ∷ []) (refl, tt);
  reached = λ t bases. All-from_recursion (λ (c : ℕ × ℕ). c.0 ≤ t) ((0, 0) ∷ []) (omega arith, tt);
}

pub not_below : (x y : ℕ) → y ≤ x → nat_lt x y ≡ false
not_below x y h = elim (cases_Bool (nat_lt x y)) [
  | inl t ↦ absurd (let l = ltb-true x y t in omega (arith, l, h))
  | inr f ↦ f
]
