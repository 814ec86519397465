-- A row that comes after others: which of their addresses it contains, and the index there.
use Rattle.std.proofs.Common.{◌≡◌, ◌⊎◌, ℕ, ◌+◌, ◌-◌, ◌^◌, ◌<◌, ◌≤◌, ◌==◌, nat_lt, true, false, cond, List, [], ◌∷◌, ◌++◌, Option, Some, None, refl, sym, ap, ◌∙◌, arith, inl, inr, subst, length, unwrap_or, All, get_or, take, drop, drop-cons, append_assoc, ltb, add-one}
use Rattle.std.specs.declared.cmp.Ordering.TheVariants.{Less, Equal, Greater}
use Rattle.std.specs.BTreeSet.{insert_key}
use Rattle.std.specs.Cmp.{nat_cmp_is}
use Rattle.std.specs.List.{AllByRecursion}
use Rattle.std.specs.Map.{keys_of}
use Rattle.std.specs.Ordering.{nat_cmp, ordering_then}
use Rattle.std.proofs.lemmas.Bool.{cases_Bool, cases_eq, cases_lt, cases_order, eqb-true, eq-eqb, lt-ltb, ltb-true, cond-true, cond-false}
use Rattle.std.proofs.lemmas.List.{map-append, take-append-drop}
use Rattle.std.proofs.lemmas.List.Elements.{All-from_recursion, recursion_from_All, All-push}
use Rattle.std.proofs.lemmas.Map.Keys.{sorted_head, sorted_tail}
use Rattle.std.proofs.lemmas.Nat.{pow_pos}
use Rattle.prefix_width.specs.Prefix.{Block, IsBlock, contains, head_of}
use Rattle.prefix_width.specs.Longest.{longest, longer, only_if_in}
use Rattle.prefix_width.specs.Order.{block_cmp}
use Rattle.prefix_width.proofs.PrefixLemmas.{head_of_fewer}
use Rattle.module_trait.specs.Rows.{IsAscending, index_of}
use Rattle.module_trait.proofs.BlockLemmas.{in_run, from_run}
use Rattle.module_trait.proofs.MatchLemmas.{longest-push, longer-none}
use Rattle.module_trait.proofs.UnderLemmas.{no_shorter}
use Rattle.module_trait.specs.Starts.{AreRight, end_of, index_at, starts_of, IsUp, IsIn}
use Rattle.module_trait.specs.Sweep.{IsSweep, ComesAfter, IsPast, begun, with_end}
use Rattle.module_trait.proofs.CentralLaw.{NoneBetween, same_between}
use Rattle.module_trait.proofs.StartLemmas.{IsEdge, in-starts, from-starts, starts-push, up-starts}
use Rattle.module_trait.proofs.UpLemmas.{up-split, in-all, in-append, insert-past, insert-first, insert-there, all-append, all-left, all-right, all-weaker, all-both}

-- ---- lists

pub up-right : (xs ys : List ℕ) → IsUp (xs ++ ys) → IsUp ys
up-right [] ys up = up
up-right (x ∷ xs) ys up = up-right xs ys up.1

pub in-right : (xs ys : List ℕ) (t : ℕ) → IsIn t ys → IsIn t (xs ++ ys)
in-right [] ys t is = is
in-right (x ∷ xs) ys t is = inr (in-right xs ys t is)

pub all-from-in : (P : ℕ → Type 0) (xs : List ℕ) → ((t : ℕ) → IsIn t xs → P t) → AllByRecursion P xs
all-from-in P [] each = tt
all-from-in P (x ∷ xs) each = (each x (inl refl), all-from-in P xs (λ t is. each t (inr is)))

pub all-keys : (P : ℕ → Type 0) (xs : List (ℕ × ℕ)) → AllByRecursion P (keys_of xs) → AllByRecursion (λ c. P c.0) xs
all-keys P [] all = tt
all-keys P (x ∷ xs) all = (all.0, all-keys P xs all.1)

pub keys-all : (P : ℕ → Type 0) (xs : List (ℕ × ℕ)) → AllByRecursion (λ c. P c.0) xs → AllByRecursion P (keys_of xs)
keys-all P [] all = tt
keys-all P (x ∷ xs) all = (all.0, keys-all P xs all.1)

pub keys-append : (xs ys : List (ℕ × ℕ)) → keys_of (xs ++ ys) ≡ keys_of xs ++ keys_of ys
keys-append xs ys = map-append (λ e. e.0) xs ys

-- a list that isn't empty has a last element
pub last_split : (xs : List (ℕ × ℕ)) → 0 < length xs → (most : List (ℕ × ℕ)) × (last : ℕ × ℕ) × (xs ≡ most ++ last ∷ [])
last_split [] some = absurd (omega (arith, some))
last_split (x ∷ []) some = ([], x, refl)
last_split (x ∷ y ∷ xs) some = let rest = last_split (y ∷ xs) (omega arith) in (x ∷ rest.0, rest.1, ap (λ zs. x ∷ zs) rest.2)

-- ---- rows before a row

pub less_from_cmp : (x y : ℕ) → nat_cmp x y ≡ Less → x < y
less_from_cmp x y h = elim (cases_order x y) [
  | inl e ↦ absurd (let f = nat_cmp_is x y Equal e ∙ h in cc)
  | inr o ↦ elim o [
    | inl less ↦ less
    | inr more ↦ absurd (let f = nat_cmp_is x y Greater more ∙ h in cc)
  ]
]

-- what it means that a prefix comes before another
pub before_cases : (p q : Block) → block_cmp p q ≡ Less → (p.base < q.base) ⊎ ((p.base ≡ q.base) × (p.len < q.len))
before_cases p q h = elim (cases_order p.base q.base) [
  | inl e ↦ inr (e, less_from_cmp p.len q.len (ap (λ o. ordering_then o (nat_cmp p.len q.len)) (nat_cmp_is p.base q.base Equal e) ∙ h))
  | inr o ↦ elim o [
    | inl less ↦ inl less
    | inr more ↦ absurd (let f = ap (λ o. ordering_then o (nat_cmp p.len q.len)) (nat_cmp_is p.base q.base Greater more) ∙ h in cc)
  ]
]

-- a prefix that comes before another and contains its address is shorter
pub shorter : (w : ℕ) (p q : Block) → IsBlock w p → IsBlock w q → block_cmp p q ≡ Less → contains w p q.base ≡ true → p.len < q.len
shorter w p q ip iq h inside = elim (before_cases p q h) [
  | inr same ↦ same.1
  | inl less ↦
      let le = no_shorter w p q ip iq less inside in
      elim (cases_lt p.len q.len) [
        | inl l ↦ l
        | inr ge ↦
            let e : q.len ≡ p.len = omega arith in
            let out : contains w q p.base ≡ true = eq-eqb _ _ (ap (λ n. head_of w n p.base) e ∙ sym (eqb-true _ _ inside) ∙ ap (λ n. head_of w n q.base) (sym e)) in
            let r = in_run w q p.base iq out in
            absurd (omega (arith, r, less))
      ]
]

-- and ends no sooner
pub ends_later : (w : ℕ) (p q : Block) → IsBlock w p → IsBlock w q → p.len ≤ q.len → contains w p q.base ≡ true → end_of w q ≤ end_of w p
ends_later w p q ip iq le inside =
    let pos = pow_pos (w - q.len) in
    let last : contains w q (q.base + 2 ^ (w - q.len) - 1) ≡ true = from_run w q (q.base + 2 ^ (w - q.len) - 1) iq (omega arith) (omega arith) in
    let same = head_of_fewer w p.len q.len (q.base + 2 ^ (w - q.len) - 1) q.base le iq.2 (eqb-true _ _ last) in
    let r = in_run w p (q.base + 2 ^ (w - q.len) - 1) ip (eq-eqb _ _ (same ∙ eqb-true _ _ inside)) in
    omega (arith, r, pos)

-- a start of the rows before that is past the row's address is at its end or past it
pub edges_far : (w : ℕ) (front : List (Block × ℕ)) (r : Block × ℕ) (t : ℕ) → AllByRecursion (IsBlock w) (keys_of front) → IsBlock w r.0 → AllByRecursion (λ q. block_cmp q.0 r.0 ≡ Less) front → IsEdge w front t → r.0.base < t → end_of w r.0 ≤ t
edges_far w [] r t blocks block before edge past = absurd edge
edges_far w (q ∷ front) r t blocks block before edge past = elim edge [
  | inl base ↦ absurd (elim (before_cases q.0 r.0 before.0) [ inl less ↦ omega (arith, base, less, past) | inr same ↦ (let e = same.0 in omega (arith, base, e, past)) ])
  | inr o ↦ elim o [
    | inl end ↦
        let at = end.0 in
        let low : q.0.base ≤ r.0.base = elim (before_cases q.0 r.0 before.0) [ inl less ↦ omega (arith, less) | inr same ↦ (let e = same.0 in omega (arith, e)) ] in
        let inside = from_run w q.0 r.0.base blocks.0 low (omega (arith, at, past)) in
        let less = shorter w q.0 r.0 blocks.0 block before.0 inside in
        let later = ends_later w q.0 r.0 blocks.0 block (omega (arith, less)) inside in
        omega (arith, later, at)
    | inr rest ↦ edges_far w front r t blocks.1 block before.1 rest past
  ]
]

-- ---- indexes

-- outside the row the index stays
pub index_kept : (w : ℕ) (front : List (Block × ℕ)) (r : Block × ℕ) (t : ℕ) → IsBlock w r.0 → (t < r.0.base) ⊎ (end_of w r.0 ≤ t) → index_at w (front ++ r ∷ []) t ≡ index_at w front t
index_kept w front r t block out =
    let none : contains w r.0 t ≡ false = elim (cases_Bool (contains w r.0 t)) [
      | inl h ↦ (let g = in_run w r.0 t block h in elim out [ inl x ↦ absurd (omega (arith, g, x)) | inr x ↦ absurd (omega (arith, g, x)) ])
      | inr h ↦ h
    ] in
    ap (λ o. unwrap_or (index_of o) 0) (longest-push w front r t ∙ ap (λ b. longer (longest w front t) (cond b (Some r) None)) none ∙ longer-none (longest w front t))

-- a match shorter than a length
abbrev pub IsBelow : Option (Block × ℕ) → ℕ → Type 0
IsBelow None n = Unit {0}
IsBelow (Some r) n = r.0.len < n

pub below_longer : (x y : Option (Block × ℕ)) (n : ℕ) → IsBelow x n → IsBelow y n → IsBelow (longer x y) n
below_longer None y n hx hy = hy
below_longer (Some r) None n hx hy = hx
below_longer (Some r) (Some s) n hx hy = elim (ltb r.0.len s.0.len) as (λ b. IsBelow (cond b (Some s) (Some r)) n) [ true ↦ hy | false ↦ hx ]

pub below_row : (w : ℕ) (front : List (Block × ℕ)) (r : Block × ℕ) → AllByRecursion (IsBlock w) (keys_of front) → IsBlock w r.0 → AllByRecursion (λ q. block_cmp q.0 r.0 ≡ Less) front → IsBelow (longest w front r.0.base) r.0.len
below_row w [] r blocks block before = tt
below_row w (q ∷ front) r blocks block before =
    let first : IsBelow (only_if_in w r.0.base q) r.0.len = elim (cases_Bool (contains w q.0 r.0.base)) [
      | inl inside ↦ subst (λ o. IsBelow o r.0.len) (sym (cond-true _ _ _ inside)) (shorter w q.0 r.0 blocks.0 block before.0 inside)
      | inr out ↦ subst (λ o. IsBelow o r.0.len) (sym (cond-false _ _ _ out)) tt
    ] in
    below_longer (only_if_in w r.0.base q) (longest w front r.0.base) r.0.len first (below_row w front r blocks.1 block before.1)

pub longer_wins : (o : Option (Block × ℕ)) (r : Block × ℕ) → IsBelow o r.0.len → longer o (Some r) ≡ Some r
longer_wins None r below = refl
longer_wins (Some q) r below = cond-true _ _ _ (lt-ltb _ _ below)

-- at its address the row answers
pub index_begun : (w : ℕ) (front : List (Block × ℕ)) (r : Block × ℕ) → AllByRecursion (IsBlock w) (keys_of front) → IsBlock w r.0 → AllByRecursion (λ q. block_cmp q.0 r.0 ≡ Less) front → r.1 ≡ index_at w (front ++ r ∷ []) r.0.base
index_begun w front r blocks block before =
    let pos = pow_pos (w - r.0.len) in
    let inside = from_run w r.0 r.0.base block (omega arith) (omega (arith, pos)) in
    sym (ap (λ o. unwrap_or (index_of o) 0) (longest-push w front r r.0.base ∙ ap (longer (longest w front r.0.base)) (cond-true _ _ _ inside) ∙ longer_wins (longest w front r.0.base) r (below_row w front r blocks block before)))
