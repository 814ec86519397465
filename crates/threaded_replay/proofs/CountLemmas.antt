-- Nexthops counted: as many passes hit each as gets gave it.
use Rattle.std.proofs.Common.{◌≡◌, ◌∙◌, ℕ, zero, suc, ◌+◌, ◌%◌, ◌<◌, ◌≤◌, true, false, cond, List, [], ◌∷◌, ◌++◌, Option, Some, None, length, refl, sym, ap, arith, inl, inr, get_or}
use Rattle.std.specs.Prelude.{◌==◌, option_to_list, reverse}
use Rattle.std.specs.List.{cons_option, filter_map, flat_map, slice_get}
use Rattle.std.specs.List.Sorted.{IsStrictlySortedBy}
use Rattle.std.proofs.lemmas.Bool.{cases_Bool, cases_lt}
use Rattle.std.proofs.lemmas.Bool.Decides.{eqb_tells}
use Rattle.std.proofs.lemmas.List.{reverse-append}
use Rattle.std.proofs.lemmas.List.Elements.{All-nil}
use Rattle.std.proofs.Math.Nat.{mod-lt}
use Rattle.prefix_width.specs.Nexthop.{Hop}
use Rattle.prefix_width.specs.Order.{hop_cmp}
use Rattle.prefix_width.proofs.OrderLemmas.{hop_exact, hop_total}
use Rattle.counted_map.specs.Counts.{IsCounts, count_of, linked_all, times}
use Rattle.counted_map.proofs.CountMapLemmas.{IsCounts-linked_all, linked_all_at, same_counts}
use Rattle.threaded_replay.specs.Legal.{Family, Get, is_in, turns_from}

no_counts : IsCounts hop_cmp []
unfolding IsStrictlySortedBy
no_counts = record { order = tt; some = All-nil (λ n. 1 ≤ n) }

-- lists that have each nexthop as often come to the same counts
pub same_counted : (ks ls : List Hop) → ((h : Hop) → times hop_cmp h ks ≡ times hop_cmp h ls) → linked_all hop_cmp [] ks ≡ linked_all hop_cmp [] ls
same_counted ks ls same =
    same_counts hop_cmp hop_total hop_exact (linked_all hop_cmp [] ks) (linked_all hop_cmp [] ls)
    (IsCounts-linked_all hop_cmp hop_total [] ks no_counts) (IsCounts-linked_all hop_cmp hop_total [] ls no_counts)
    (λ h. linked_all_at hop_cmp hop_total hop_exact [] ks h ∙ ap (λ n. count_of hop_cmp [] h + n) (same h) ∙ sym (linked_all_at hop_cmp hop_total hop_exact [] ls h))

-- ---- how often a nexthop stands in a list

pub times-append : (h : Hop) (ks ls : List Hop) → times hop_cmp h (ks ++ ls) ≡ times hop_cmp h ks + times hop_cmp h ls
times-append h [] ls = omega arith
times-append h (k ∷ ks) ls = let ih = times-append h ks ls in omega arith

pub times-reverse : (h : Hop) (ks : List Hop) → times hop_cmp h (reverse ks) ≡ times hop_cmp h ks
times-reverse h [] = refl
times-reverse h (k ∷ ks) =
    ap (times hop_cmp h) (reverse-append (k ∷ []) ks)
    ∙ times-append h (reverse ks) (k ∷ [])
    ∙ (let ih = times-reverse h ks in omega arith)

times-cons : (h : Hop) (o : Option Hop) (ks : List Hop) → times hop_cmp h (cons_option o ks) ≡ times hop_cmp h (option_to_list o) + times hop_cmp h ks
times-cons h None ks = omega arith
times-cons h (Some k) ks = omega arith

-- ---- sums

-- f b and so on to f (b + n - 1), added
abbrev pub added : (ℕ → ℕ) → ℕ → ℕ → ℕ
added f b zero = 0
added f b (suc n) = f b + added f (suc b) n

pub added_same : (f g : ℕ → ℕ) (b n : ℕ) → ((i : ℕ) → f i ≡ g i) → added f b n ≡ added g b n
added_same f g b zero same = refl
added_same f g b (suc n) same = let e = same b in let ih = added_same f g (suc b) n same in omega arith

added_none : (f : ℕ → ℕ) (b n : ℕ) → ((i : ℕ) → f i ≡ 0) → added f b n ≡ 0
added_none f b zero none = refl
added_none f b (suc n) none = let e = none b in let ih = added_none f (suc b) n none in omega arith

-- the term of a number that isn't there is no more
added_past : (f : ℕ → ℕ) (a x b n : ℕ) → a < b → added (λ i. cond (a == i) x 0 + f i) b n ≡ added f b n
added_past f a x b zero past = refl
added_past f a x b (suc n) past =
    let z : (a == b) ≡ false = elim (eqb_tells a b) [ inl p ↦ (let e = p.1 in absurd (omega arith)) | inr p ↦ p.0 ] in
    let ih = added_past f a x (suc b) n (omega arith) in
    rw z (omega (arith, ih))

-- the term of a number that is there is one more
added_once : (f : ℕ → ℕ) (a x b n : ℕ) → b ≤ a → a < b + n → added (λ i. cond (a == i) x 0 + f i) b n ≡ x + added f b n
added_once f a x b zero low high = absurd (omega arith)
added_once f a x b (suc n) low high = elim (eqb_tells a b) [
  | inl p ↦ (let past = added_past f a x (suc b) n (let e = p.1 in omega arith) in rw p.0 (omega (arith, past)))
  | inr p ↦ (let d = p.1 in let later = added_once f a x (suc b) n (above a b low d) (omega arith) in rw p.0 (omega (arith, later)))
]
  where
    above : (a b : ℕ) → b ≤ a → (a ≡ b → ⊥) → suc b ≤ a
    above a b low d = elim (cases_lt b a) [ inl lt ↦ omega arith | inr ge ↦ absurd (d (omega arith)) ]

-- ---- the turns of all workers

-- b and so on, so many numbers
abbrev pub numbers : ℕ → ℕ → List ℕ
numbers b zero = []
numbers b (suc n) = b ∷ numbers (suc b) n

-- of what gets give, each stands among the turns of one worker
pub all_turns_count : (h : Hop) (n : ℕ) (family : Family) (given : ℕ → Option Hop) (gets : List Get) (b : ℕ) → 0 < n
    → ((i : ℕ) (get : Get) → slice_get gets i ≡ Some get → is_in family get ≡ false → given (b + i) ≡ None)
    → added (λ w. times hop_cmp h (filter_map given (turns_from b n w family gets))) 0 n ≡ times hop_cmp h (filter_map given (numbers b (length gets)))
all_turns_count h n family given [] b some none = added_none (λ w. 0) 0 n (λ i. refl)
all_turns_count h n family given (get ∷ gets) b some none =
    let later = all_turns_count h n family given gets (suc b) some
    (λ i g at out. (let e : b + suc i ≡ suc b + i = omega arith in rw e at (none (suc i) g at out))) in
    elim (cases_Bool (is_in family get)) [
      | inl y ↦ by_in y later
      | inr o ↦ (let e : b + 0 ≡ b = omega arith in
          let gone : given b ≡ None = rw e at (none 0 get refl o) in
          rw (o, gone) later)
    ]
  where
    x : ℕ
    x = times hop_cmp h (option_to_list (given b))

    rest : ℕ → List ℕ
    rest w = turns_from (suc b) n w family gets

    one : (w : ℕ) → is_in family get ≡ true → times hop_cmp h (filter_map given (turns_from b n w family (get ∷ gets))) ≡ cond (b % n == w) x 0 + times hop_cmp h (filter_map given (rest w))
    one w y = elim (cases_Bool (b % n == w)) [
      | inl t ↦ rw (y, t) (times-cons h (given b) (filter_map given (rest w)))
      | inr f ↦ rw (y, f) (omega arith)
    ]

    by_in : is_in family get ≡ true → added (λ w. times hop_cmp h (filter_map given (rest w))) 0 n ≡ times hop_cmp h (filter_map given (numbers (suc b) (length gets)))
        → added (λ w. times hop_cmp h (filter_map given (turns_from b n w family (get ∷ gets)))) 0 n ≡ times hop_cmp h (filter_map given (numbers b (length (get ∷ gets))))
    by_in y later =
        added_same _ (λ w. cond (b % n == w) x 0 + times hop_cmp h (filter_map given (rest w))) 0 n (λ w. one w y)
        ∙ added_once (λ w. times hop_cmp h (filter_map given (rest w))) (b % n) x 0 n (omega arith) (let m = mod-lt b some in omega (arith, m))
        ∙ ap (λ s. x + s) later
        ∙ sym (times-cons h (given b) (filter_map given (numbers (suc b) (length gets))))

-- what many passes hit, by what each hit
pub all_hits_count : {X : Type 0} (h : Hop) (hit : X → List Hop) (f : ℕ → ℕ) (passes : List X) (b : ℕ) → ((i : ℕ) (d : X) → i < length passes → times hop_cmp h (hit (get_or passes i d)) ≡ f (b + i))
    → times hop_cmp h (flat_map hit passes) ≡ added f b (length passes)
all_hits_count h hit f [] b each = refl
all_hits_count h hit f (p ∷ passes) b each =
    let first : times hop_cmp h (hit p) ≡ f b = (let e : b + 0 ≡ b = omega arith in rw e at (each 0 p (omega arith))) in
    let later = all_hits_count h hit f passes (suc b) (λ i d lt. (let e : b + suc i ≡ suc b + i = omega arith in rw e at (each (suc i) d (omega (arith, lt))))) in
    times-append h (hit p) (flat_map hit passes) ∙ (omega (arith, first, later))
