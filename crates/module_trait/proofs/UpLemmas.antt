-- Ascending lists of numbers, and a number put in its place.
use Rattle.std.proofs.Common.{◌≡◌, ◌⊎◌, ℕ, ◌<◌, List, [], ◌∷◌, ◌++◌, refl, sym, ap, ◌∙◌, subst, inl, inr, arith}
use Rattle.std.specs.BTreeSet.{insert_key}
use Rattle.std.specs.Cmp.{nat_cmp_is}
use Rattle.std.specs.List.{AllByRecursion}
use Rattle.std.specs.Ordering.{nat_cmp, match_ordering}
use Rattle.std.specs.declared.cmp.Ordering.{Ordering}
use Rattle.std.specs.declared.cmp.Ordering.TheVariants.{Less, Equal, Greater}
use Rattle.std.proofs.lemmas.Bool.{cases_order}
use Rattle.module_trait.specs.Starts.{IsIn, IsUp}

module _ {X : Type 0} (P : X → Type 0) where
  pub all-append : (xs ys : List X) → AllByRecursion P xs → AllByRecursion P ys → AllByRecursion P (xs ++ ys)
  all-append [] ys h k = k
  all-append (x ∷ xs) ys h k = (h.0, all-append xs ys h.1 k)

  pub all-left : (xs ys : List X) → AllByRecursion P (xs ++ ys) → AllByRecursion P xs
  all-left [] ys h = tt
  all-left (x ∷ xs) ys h = (h.0, all-left xs ys h.1)

  pub all-right : (xs ys : List X) → AllByRecursion P (xs ++ ys) → AllByRecursion P ys
  all-right [] ys h = h
  all-right (x ∷ xs) ys h = all-right xs ys h.1

  pub all-weaker : (Q : X → Type 0) → ((x : X) → P x → Q x) → (xs : List X) → AllByRecursion P xs → AllByRecursion Q xs
  all-weaker Q f [] h = tt
  all-weaker Q f (x ∷ xs) h = (f x h.0, all-weaker Q f xs h.1)

  pub all-both : (Q R : X → Type 0) → ((x : X) → P x → Q x → R x) → (xs : List X) → AllByRecursion P xs → AllByRecursion Q xs → AllByRecursion R xs
  all-both Q R f [] h k = tt
  all-both Q R f (x ∷ xs) h k = (f x h.0 k.0, all-both Q R f xs h.1 k.1)

-- around a number of an ascending list
pub up-split : (xs : List ℕ) (y : ℕ) (ys : List ℕ) → IsUp (xs ++ y ∷ ys) → AllByRecursion (λ x. x < y) xs × AllByRecursion (λ z. y < z) ys
up-split [] y ys up = (tt, up.0)
up-split (x ∷ xs) y ys up =
    let rest = up-split xs y ys up.1 in
    (((all-right (λ z. x < z) xs (y ∷ ys) up.0).0, rest.0), rest.1)

pub in-all : (P : ℕ → Type 0) (xs : List ℕ) (t : ℕ) → AllByRecursion P xs → IsIn t xs → P t
in-all P [] t all is = absurd is
in-all P (x ∷ xs) t all is = elim is [ inl e ↦ subst P (sym e) all.0 | inr i ↦ in-all P xs t all.1 i ]

pub in-append : (xs ys : List ℕ) (t : ℕ) → IsIn t (xs ++ ys) → IsIn t xs ⊎ IsIn t ys
in-append [] ys t is = inr is
in-append (x ∷ xs) ys t is = elim is [
  | inl e ↦ inl (inl e)
  | inr i ↦ elim (in-append xs ys t i) [ inl l ↦ inl (inr l) | inr r ↦ inr r ]
]

-- a number past the first ones is put behind them
pub insert-past : (t : ℕ) (xs ys : List ℕ) → AllByRecursion (λ x. x < t) xs → insert_key nat_cmp (xs ++ ys) t ≡ xs ++ insert_key nat_cmp ys t
insert-past t [] ys below = refl
insert-past t (x ∷ xs) ys below =
    ap (λ o. match_ordering o (t ∷ x ∷ (xs ++ ys)) (x ∷ (xs ++ ys)) (x ∷ insert_key nat_cmp (xs ++ ys) t)) (sym (nat_cmp_is t x Greater below.0))
    ∙ ap (λ zs. x ∷ zs) (insert-past t xs ys below.1)

-- before those above it
pub insert-first : (t : ℕ) (ys : List ℕ) → AllByRecursion (λ y. t < y) ys → insert_key nat_cmp ys t ≡ t ∷ ys
insert-first t [] above = refl
insert-first t (y ∷ ys) above = ap (λ o. match_ordering o (t ∷ y ∷ ys) (y ∷ ys) (y ∷ insert_key nat_cmp ys t)) (sym (nat_cmp_is t y Less above.0))

-- and where it is there, nothing changes
pub insert-there : (t : ℕ) (ys : List ℕ) → insert_key nat_cmp (t ∷ ys) t ≡ t ∷ ys
insert-there t ys = ap (λ o. match_ordering o (t ∷ t ∷ ys) (t ∷ ys) (t ∷ insert_key nat_cmp ys t)) (sym (nat_cmp_is t t Equal refl))

all-insert : (P : ℕ → Type 0) (xs : List ℕ) (t : ℕ) → AllByRecursion P xs → P t → AllByRecursion P (insert_key nat_cmp xs t)
all-insert P [] t all p = (p, tt)
all-insert P (x ∷ xs) t all p = by (nat_cmp t x) (all-insert P xs t all.1 p)
  where
    by : (o : Ordering) → AllByRecursion P (insert_key nat_cmp xs t) → AllByRecursion P (match_ordering o (t ∷ x ∷ xs) (x ∷ xs) (x ∷ insert_key nat_cmp xs t))
    by Less rest = (p, all)
    by Equal rest = all
    by Greater rest = (all.0, rest)

-- the list stays ascending
pub up-insert : (xs : List ℕ) (t : ℕ) → IsUp xs → IsUp (insert_key nat_cmp xs t)
up-insert [] t up = (tt, tt)
up-insert (x ∷ xs) t up =
    let rest = up-insert xs t up.1 in
    elim (cases_order t x) [
      | inl e ↦ subst IsUp (sym (ap (insert_key nat_cmp (x ∷ xs)) e ∙ insert-there x xs)) up
      | inr o ↦ elim o [
        | inl less ↦
            let above = all-weaker (λ y. x < y) (λ y. t < y) (λ y h. omega arith) xs up.0 in
            subst IsUp (sym (insert-first t (x ∷ xs) (less, above))) ((less, above), up)
        | inr more ↦ subst IsUp (sym (insert-past t (x ∷ []) xs (more, tt))) (all-insert (λ y. x < y) xs t up.0 more, rest)
      ]
    ]

-- what is in it: the number, and what was
pub in-insert : (xs : List ℕ) (t u : ℕ) → (u ≡ t) ⊎ IsIn u xs → IsIn u (insert_key nat_cmp xs t)
in-insert [] t u is = is
in-insert (x ∷ xs) t u is = elim (cases_order t x) [
  | inl e ↦ subst (IsIn u) (sym (ap (insert_key nat_cmp (x ∷ xs)) e ∙ insert-there x xs)) (elim is [ inl h ↦ inl (h ∙ e) | inr h ↦ h ])
  | inr o ↦ elim o [
    | inl less ↦ subst (IsIn u) (sym (before less)) is
    | inr more ↦ subst (IsIn u) (sym (insert-past t (x ∷ []) xs (more, tt))) (elim is [
      | inl h ↦ inr (in-insert xs t u (inl h))
      | inr h ↦ elim h [ inl f ↦ inl f | inr i ↦ inr (in-insert xs t u (inr i)) ]
    ])
  ]
]
  where
    before : t < x → insert_key nat_cmp (x ∷ xs) t ≡ t ∷ x ∷ xs
    before less = ap (λ o. match_ordering o (t ∷ x ∷ xs) (x ∷ xs) (x ∷ insert_key nat_cmp xs t)) (sym (nat_cmp_is t x Less less))

pub from-insert : (xs : List ℕ) (t u : ℕ) → IsIn u (insert_key nat_cmp xs t) → (u ≡ t) ⊎ IsIn u xs
from-insert [] t u is = is
from-insert (x ∷ xs) t u is = by (nat_cmp t x) is (from-insert xs t u)
  where
    by : (o : Ordering) → IsIn u (match_ordering o (t ∷ x ∷ xs) (x ∷ xs) (x ∷ insert_key nat_cmp xs t)) → (IsIn u (insert_key nat_cmp xs t) → (u ≡ t) ⊎ IsIn u xs) → (u ≡ t) ⊎ IsIn u (x ∷ xs)
    by Less i rest = i
    by Equal i rest = inr i
    by Greater i rest = elim i [
      | inl e ↦ inr (inl e)
      | inr j ↦ elim (rest j) [ inl e ↦ inl e | inr k ↦ inr (inr k) ]
    ]
