-- Lists that are read by index: results of which all are Ok, and a list that is one longer. Lists that are taken apart.
use Rattle.std.proofs.Common.{◌≡◌, ◌∙◌, ℕ, zero, suc, ◌<◌, List, [], ◌∷◌, ◌++◌, length, refl, sym, ap, subst, arith, inl, inr, get_or, length-append, append-nil, append_assoc}
use Rattle.std.specs.Prelude.{slice_index_or, map, Result, Ok, Err, IfOk}
use Rattle.std.proofs.lemmas.Bool.{cases_lt}
use Rattle.std.proofs.lemmas.List.{length-map, map-append, nil_from_length}
use Rattle.std.proofs.Math.ListN.{get_or-append}
use Rattle.std.proofs.Math.Seq.{get_or-append_seam}

ok_at : {X E : Type 0} (ok : X → Result X E) → ((x : X) → ok x ≡ Ok x) → (xs : List X) (i : ℕ) (d : X) (Q : X → Type 0) → i < length xs → ((d' : Result X E) → IfOk (slice_index_or (map ok xs) i d') Q) → Q (slice_index_or xs i d)
ok_at ok is [] i d Q lt h = absurd (omega (arith, lt))
ok_at ok is (x ∷ xs) zero d Q lt h = let R : Result _ _ → Type 0 = λ r. IfOk r Q in subst R (is x) (h (ok x))
ok_at ok is (x ∷ xs) (suc i) d Q lt h = ok_at ok is xs i d Q (omega (arith, lt)) h

pub each_ok : {X E : Type 0} (P : ℕ → X → Type 0) (ok : X → Result X E) → ((x : X) → ok x ≡ Ok x) → (rs : List (Result X E)) (xs : List X) → map ok xs ≡ rs
    → ((i : ℕ) (d : Result X E) → i < length rs → IfOk (slice_index_or rs i d) (P i)) → (i : ℕ) (d : X) → i < length xs → P i (slice_index_or xs i d)
each_ok {X} {E} P ok is rs xs e all i d lt =
    let n : length (map ok xs) ≡ length xs = length-map xs ok in
    let m : length rs ≡ length xs = ap length (sym e) ∙ n in
    ok_at ok is xs i d (P i) lt (λ d'. subst (λ zs. IfOk (slice_index_or zs i d') (P i)) (sym e) (all i d' (omega (arith, lt, m))))

-- a list that is read as another is, one longer
pub read_snoc : {X : Type 0} (R : ℕ → X → X) (xs : List X) (x : X) → ((j : ℕ) (g : X) → j < length xs → get_or xs j g ≡ R j g) → ((g : X) → x ≡ R (length xs) g)
    → (j : ℕ) (g : X) → j < length (xs ++ x ∷ []) → get_or (xs ++ x ∷ []) j g ≡ R j g
read_snoc R xs x old new j g lt = elim (cases_lt j (length xs)) [
  | inl h ↦ get_or-append xs (x ∷ []) g j h ∙ old j g h
  | inr h ↦ (let n = length-append xs (x ∷ []) in let e : length xs ≡ j = omega (arith, lt) in
      subst (λ k. get_or (xs ++ x ∷ []) k g ≡ R k g) e (get_or-append_seam xs x [] g ∙ new g))
]

-- a fact of each element by its index, of a list that is one longer
pub each_snoc : {X : Type 0} (P : ℕ → X → Type 0) (xs : List X) (x : X) → ((i : ℕ) (d : X) → i < length xs → P i (slice_index_or xs i d)) → P (length xs) x
    → (i : ℕ) (d : X) → i < length (xs ++ x ∷ []) → P i (slice_index_or (xs ++ x ∷ []) i d)
each_snoc P xs x old new i d lt = elim (cases_lt i (length xs)) [
  | inl h ↦ subst (P i) (sym (get_or-append xs (x ∷ []) d i h)) (old i d h)
  | inr h ↦ (let n = length-append xs (x ∷ []) in let e : length xs ≡ i = omega (arith, lt) in
      subst (λ k. P k (slice_index_or (xs ++ x ∷ []) k d)) e (subst (P (length xs)) (sym (get_or-append_seam xs x [] d)) new))
]

-- an element of a list that has one
pub one_of : {X : Type 0} (xs : List X) → 0 < length xs → X
one_of [] lt = absurd (omega (arith, lt))
one_of (x ∷ xs) lt = x

map_at : {X Y : Type 0} (f : X → Y) (xs : List X) (i : ℕ) (d : X) (e : Y) → i < length xs → slice_index_or (map f xs) i e ≡ f (slice_index_or xs i d)
map_at f [] i d e lt = absurd (omega (arith, lt))
map_at f (x ∷ xs) zero d e lt = refl
map_at f (x ∷ xs) (suc i) d e lt = map_at f xs i d e (omega (arith, lt))

-- elements of two lists that are the same by two functions
pub same_maps : {X Y Z : Type 0} (f : X → Z) (g : Y → Z) (xs : List X) (ys : List Y) → map f xs ≡ map g ys → (i : ℕ) (x : X) (y : Y) → i < length ys → f (slice_index_or xs i x) ≡ g (slice_index_or ys i y)
same_maps f g xs ys e i x y lt =
    let n : length xs ≡ length ys = sym (length-map xs f) ∙ ap length e ∙ length-map ys g in
    sym (map_at f xs i x (f x) (omega (arith, lt, n))) ∙ ap (λ zs. slice_index_or zs i (f x)) e ∙ map_at g ys i y (f x) lt

pub same_lengths : {X Y Z : Type 0} (f : X → Z) (g : Y → Z) (xs : List X) (ys : List Y) → map f xs ≡ map g ys → length xs ≡ length ys
same_lengths f g xs ys e = sym (length-map xs f) ∙ ap length e ∙ length-map ys g

-- ---- lists that are taken apart from the front

-- where nothing is left, what was taken is all
pub all_taken : {X : Type 0} (front left all : List X) → length left ≡ 0 → front ++ left ≡ all → front ≡ all
all_taken front left all none is = sym (append-nil front) ∙ ap (λ xs. front ++ xs) (sym (nil_from_length left none)) ∙ is

-- one more is taken
pub one_taken : {X Y Z : Type 0} (f : X → Z) (g : Y → Z) (front : List X) (x : X) (left rest : List Y) (y : Y) (all : List Z) → left ≡ y ∷ rest → f x ≡ g y → map f front ++ map g left ≡ all
    → map f (front ++ x ∷ []) ++ map g rest ≡ all
one_taken f g front x left rest y all split same is =
    ap (λ zs. zs ++ map g rest) (map-append f front (x ∷ []))
    ∙ append_assoc (map f front) (f x ∷ []) (map g rest)
    ∙ ap (λ z. map f front ++ z ∷ map g rest) same
    ∙ ap (λ ys. map f front ++ map g ys) (sym split)
    ∙ is

-- what two facts of the value in an `Ok` give
pub IfOk-both : {X E : Type 0} (r : Result X E) (P Q R : X → Type 0) → ((x : X) → P x → Q x → R x) → IfOk r P → IfOk r Q → IfOk r R
IfOk-both (Ok x) P Q R so p q = so x p q
IfOk-both (Err e) P Q R so p q = tt
