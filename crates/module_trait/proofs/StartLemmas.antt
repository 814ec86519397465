-- The starts of rows ascend, and are 0 and the two of each prefix.
use Rattle.std.proofs.Common.{◌≡◌, ◌⊎◌, ℕ, ◌^◌, ◌<◌, nat_lt, true, false, cond, List, [], ◌∷◌, ◌++◌, sym, subst, inl, inr, arith}
use Rattle.std.specs.BTreeSet.{insert_key}
use Rattle.std.specs.List.{fold}
use Rattle.std.specs.Ordering.{nat_cmp}
use Rattle.std.proofs.lemmas.Bool.{cases_Bool, cases_lt, lt-ltb, ltb-true, cond-true, cond-false}
use Rattle.std.proofs.lemmas.List.Sums.{fold_push}
use Rattle.prefix_width.specs.Prefix.{Block}
use Rattle.module_trait.specs.Starts.{end_of, with_end_of, starts_of, IsUp, IsIn}
use Rattle.module_trait.proofs.UpLemmas.{up-insert, in-insert, from-insert}

-- a first address of a prefix, or the one behind its last
abbrev pub IsEdge : ℕ → List (Block × ℕ) → ℕ → Type 0
IsEdge w [] t = ⊥
IsEdge w (r ∷ rows) t = (t ≡ r.0.base) ⊎ (((t ≡ end_of w r.0) × (t < 2 ^ w)) ⊎ IsEdge w rows t)

-- a start of the rows
abbrev pub IsStart : ℕ → List (Block × ℕ) → ℕ → Type 0
IsStart w rows t = (t ≡ 0) ⊎ IsEdge w rows t

-- the starts with those of one more row
abbrev pub add : ℕ → List ℕ → Block × ℕ → List ℕ
add w starts r = with_end_of w (insert_key nat_cmp starts r.0.base) r.0

pub starts-push : (w : ℕ) (rows : List (Block × ℕ)) (r : Block × ℕ) → starts_of w (rows ++ r ∷ []) ≡ add w (starts_of w rows) r
starts-push w rows r = fold_push (add w) (0 ∷ []) rows r

up-add : (w : ℕ) (starts : List ℕ) (r : Block × ℕ) → IsUp starts → IsUp (add w starts r)
up-add w starts r up =
    let from = up-insert starts r.0.base up in
    elim (nat_lt (end_of w r.0) (2 ^ w)) as (λ b. IsUp (cond b (insert_key nat_cmp (insert_key nat_cmp starts r.0.base) (end_of w r.0)) (insert_key nat_cmp starts r.0.base))) [
      | true ↦ up-insert (insert_key nat_cmp starts r.0.base) (end_of w r.0) from
      | false ↦ from
    ]

up-from : (w : ℕ) (rows : List (Block × ℕ)) (starts : List ℕ) → IsUp starts → IsUp (fold (add w) starts rows)
up-from w [] starts up = up
up-from w (r ∷ rows) starts up = up-from w rows (add w starts r) (up-add w starts r up)

pub up-starts : (w : ℕ) (rows : List (Block × ℕ)) → IsUp (starts_of w rows)
up-starts w rows = up-from w rows (0 ∷ []) (tt, tt)

-- what one more row adds
in-add : (w : ℕ) (starts : List ℕ) (r : Block × ℕ) (t : ℕ) → (t ≡ r.0.base) ⊎ (((t ≡ end_of w r.0) × (t < 2 ^ w)) ⊎ IsIn t starts) → IsIn t (add w starts r)
in-add w starts r t is =
    let from = insert_key nat_cmp starts r.0.base in
    let base : (t ≡ r.0.base) ⊎ IsIn t starts → IsIn t from = in-insert starts r.0.base t in
    elim (cases_lt (end_of w r.0) (2 ^ w)) [
      | inl fits ↦ subst (IsIn t) (sym (cond-true _ _ _ (lt-ltb _ _ fits))) (in-insert from (end_of w r.0) t (elim is [
        | inl b ↦ inr (base (inl b))
        | inr o ↦ elim o [ inl e ↦ inl e.0 | inr i ↦ inr (base (inr i)) ]
      ]))
      | inr past ↦ elim (cases_Bool (nat_lt (end_of w r.0) (2 ^ w))) [
        | inl h ↦ absurd (let l = ltb-true (end_of w r.0) (2 ^ w) h in omega (arith, l, past))
        | inr h ↦ subst (IsIn t) (sym (cond-false _ _ _ h)) (elim is [
          | inl b ↦ base (inl b)
          | inr o ↦ elim o [ inl e ↦ absurd (let a = e.0 in let b = e.1 in omega (arith, a, b, past)) | inr i ↦ base (inr i) ]
        ])
      ]
    ]

from-add : (w : ℕ) (starts : List ℕ) (r : Block × ℕ) (t : ℕ) → IsIn t (add w starts r) → (t ≡ r.0.base) ⊎ (((t ≡ end_of w r.0) × (t < 2 ^ w)) ⊎ IsIn t starts)
from-add w starts r t is =
    let from = insert_key nat_cmp starts r.0.base in
    let base : IsIn t from → (t ≡ r.0.base) ⊎ (((t ≡ end_of w r.0) × (t < 2 ^ w)) ⊎ IsIn t starts) = λ i. elim (from-insert starts r.0.base t i) [ inl b ↦ inl b | inr s ↦ inr (inr s) ] in
    elim (cases_Bool (nat_lt (end_of w r.0) (2 ^ w))) [
      | inl h ↦ elim (from-insert from (end_of w r.0) t (subst (IsIn t) (cond-true _ _ _ h) is)) [
        | inl e ↦ inr (inl (e, subst (λ n. n < 2 ^ w) (sym e) (ltb-true (end_of w r.0) (2 ^ w) h)))
        | inr i ↦ base i
      ]
      | inr h ↦ base (subst (IsIn t) (cond-false _ _ _ h) is)
    ]

in-from : (w : ℕ) (rows : List (Block × ℕ)) (starts : List ℕ) (t : ℕ) → IsIn t starts ⊎ IsEdge w rows t → IsIn t (fold (add w) starts rows)
in-from w [] starts t is = elim is [ inl i ↦ i | inr e ↦ absurd e ]
in-from w (r ∷ rows) starts t is = in-from w rows (add w starts r) t (elim is [
  | inl i ↦ inl (in-add w starts r t (inr (inr i)))
  | inr e ↦ elim e [
    | inl b ↦ inl (in-add w starts r t (inl b))
    | inr o ↦ elim o [ inl h ↦ inl (in-add w starts r t (inr (inl h))) | inr later ↦ inr later ]
  ]
])

from-from : (w : ℕ) (rows : List (Block × ℕ)) (starts : List ℕ) (t : ℕ) → IsIn t (fold (add w) starts rows) → IsIn t starts ⊎ IsEdge w rows t
from-from w [] starts t is = inl is
from-from w (r ∷ rows) starts t is = elim (from-from w rows (add w starts r) t is) [
  | inl i ↦ elim (from-add w starts r t i) [
    | inl b ↦ inr (inl b)
    | inr o ↦ elim o [ inl h ↦ inr (inr (inl h)) | inr s ↦ inl s ]
  ]
  | inr later ↦ inr (inr (inr later))
]

-- each start is listed
pub in-starts : (w : ℕ) (rows : List (Block × ℕ)) (t : ℕ) → IsStart w rows t → IsIn t (starts_of w rows)
in-starts w rows t is = in-from w rows (0 ∷ []) t (elim is [ inl z ↦ inl (inl z) | inr e ↦ inr e ])

-- and nothing else
pub from-starts : (w : ℕ) (rows : List (Block × ℕ)) (t : ℕ) → IsIn t (starts_of w rows) → IsStart w rows t
from-starts w rows t is = elim (from-from w rows (0 ∷ []) t is) [
  | inl i ↦ elim i [ inl z ↦ inl z | inr none ↦ absurd none ]
  | inr e ↦ inr e
]
