-- The list of all versions: each stands at its number.
use Rattle.std.proofs.Common.{◌≡◌, ℕ, zero, suc, ◌+◌, ◌-◌, ◌<◌, ◌≤◌, Bool, true, false, cond, refl, sym, ◌∙◌, ap, subst, arith, inl, inr, add-one, add-zero, add-suc, List, [], ◌∷◌, ◌++◌, length, length-append, Some}
use Rattle.std.specs.Prelude.{slice_get}
use Rattle.std.proofs.lemmas.Bool.{cases_Bool, cond_both}
use Rattle.std.proofs.lemmas.Option.{none-some, same_Some}
use Rattle.prefix_width.specs.declared.module.Kind.TheVariants.{Range}
use Rattle.plan_cut.specs.Course.{Course}
use Rattle.plan_cut.proofs.StandingLemmas.{latest_within}
use Rattle.plan_cut.specs.Versions.{Version, latest, final, made, versions, makes, makes_after, makes_at_end, following}

-- what stands in a list, and what stands at the end of one
pub get_front : {X : Type 0} (xs ys : List X) (v : ℕ) → v < length xs → slice_get (xs ++ ys) v ≡ slice_get xs v
get_front [] ys v h = absurd (omega arith)
get_front (x ∷ xs) ys zero h = refl
get_front (x ∷ xs) ys (suc v) h = get_front xs ys v (omega arith)

pub get_end : {X : Type 0} (xs : List X) (y : X) → slice_get (xs ++ (y ∷ [])) (length xs) ≡ Some y
get_end [] y = refl
get_end (x ∷ xs) y = get_end xs y

-- by cases on whether command m + 1 makes a version
data Next (course : Course) (m : ℕ) : Type 0 where
  Makes : makes_after course (suc m) (latest course m) ≡ true → latest course (suc m) ≡ following course (suc m) (latest course m) →
      made course (suc m) ≡ made course m ++ latest course (suc m) ∷ [] → Next course m
  Stays : makes_after course (suc m) (latest course m) ≡ false → latest course (suc m) ≡ latest course m → made course (suc m) ≡ made course m → Next course m

next : (course : Course) (m : ℕ) → Next course m
unfolding made latest
next course m = elim (cases_Bool (makes_after course (suc m) (latest course m))) [
  | inl y ↦ Makes y (rw y refl) (rw y refl)
  | inr n ↦ Stays n (rw n refl) (rw n refl)
]

-- as many versions as the number of the last one says
pub length-made : (course : Course) (m : ℕ) → length (made course m) ≡ (latest course m).number + 1
unfolding made latest
length-made course zero = refl
length-made course (suc m) =
    let ih = length-made course m in
    elim (next course m) [
      | Makes y e f ↦ rw f (rw e (omega (arith, length-append (made course m) (following course (suc m) (latest course m) ∷ []))))
      | Stays n e f ↦ rw (f, e) ih
    ]

-- the last version stands at its number
pub get-made-last : (course : Course) (m : ℕ) → slice_get (made course m) (latest course m).number ≡ Some (latest course m)
unfolding made latest
get-made-last course zero = refl
get-made-last course (suc m) =
    let ih = get-made-last course m in
    let len : length (made course m) ≡ suc (latest course m).number = omega (arith, length-made course m) in
    elim (next course m) [
      | Makes y e f ↦ rw f (rw e (rw len at (get_end (made course m) (following course (suc m) (latest course m)))))
      | Stays n e f ↦ rw (f, e) ih
    ]

-- versions are numbered upwards
pub number_rises : (course : Course) (m k : ℕ) → (latest course m).number ≤ (latest course (m + k)).number
number_rises course m zero = rw add-zero (omega arith)
number_rises course m (suc k) =
    let ih = number_rises course m k in
    rw add-suc (elim (next course (m + k)) [
      | Makes y e f ↦ rw e (omega arith)
      | Stays n e f ↦ rw e ih
    ])

-- versions stay in the list
pub get-made-later : (course : Course) (m k v : ℕ) → v ≤ (latest course m).number → slice_get (made course (m + k)) v ≡ slice_get (made course m) v
get-made-later course m zero v h = rw add-zero refl
get-made-later course m (suc k) v h =
    let ih = get-made-later course m k v h in
    let up = number_rises course m k in
    let len = length-made course (m + k) in
    rw add-suc (elim (next course (m + k)) [
      | Makes y e f ↦ rw f (get_front (made course (m + k)) (latest course (suc (m + k)) ∷ []) v (omega arith) ∙ ih)
      | Stays n e f ↦ rw f ih
    ])

-- the last version that the first m commands made stands at its number in the list of all
pub get-versions-latest : (course : Course) (m : ℕ) → m ≤ course.len → slice_get (versions course) (latest course m).number ≡ Some (latest course m)
get-versions-latest course m h =
    let e : m + (course.len - m) ≡ course.len = omega arith in
    let later : slice_get (made course course.len) (latest course m).number ≡ slice_get (made course m) (latest course m).number =
    rw e at (get-made-later course m (course.len - m) (latest course m).number (omega arith)) in
    let all = later ∙ get-made-last course m in
    let len = length-made course course.len in
    let up = rw e at (number_rises course m (course.len - m)) in
    elim (cases_Bool (makes_at_end course)) [
      | inl y ↦ rw y (get_front (made course course.len) (following course course.len (latest course course.len) ∷ []) (latest course m).number (omega arith) ∙ all)
      | inr n ↦ rw n all
    ]

-- there are no more versions than commands
pub latest_number : (course : Course) (m : ℕ) → (latest course m).number ≤ m
unfolding latest
latest_number course zero = omega arith
latest_number course (suc m) =
    let ih = latest_number course m in
    cond_both (makes_after course (suc m) (latest course m)) (following course (suc m) (latest course m)) (latest course m)
    (λ v. v.number ≤ suc m)
    (λ _. omega arith)
    (λ _. omega arith)

-- the last version behind command m + 1, by whether it makes one
pub latest_on : (course : Course) (m : ℕ) (t : Bool) → makes course (m + 1) ≡ t → latest course (m + 1) ≡ cond t (following course (m + 1) (latest course m)) (latest course m)
unfolding latest
latest_on course m t h =
    let back : (m + 1) - 1 ≡ m = omega arith in
    let e : makes_after course (m + 1) (latest course m) ≡ t = rw back at h in
    let f : makes_after course (suc m) (latest course m) ≡ t = rw add-one at e in
    rw add-one (rw f refl)

-- the last version of all stands at its number
pub get-versions-final : (course : Course) → slice_get (versions course) (final course).number ≡ Some (final course)
get-versions-final course =
    let last = latest course course.len in
    let len : length (made course course.len) ≡ suc last.number = omega (arith, length-made course course.len) in
    elim (cases_Bool (makes_at_end course)) [
      | inl y ↦ rw y (rw len at (get_end (made course course.len) (following course course.len last)))
      | inr n ↦ rw n (get-made-last course course.len)
    ]

-- there is one version more than the number of the last says
pub length-versions : (course : Course) → length (versions course) ≡ (final course).number + 1
length-versions course =
    let last = latest course course.len in
    let len = length-made course course.len in
    elim (cases_Bool (makes_at_end course)) [
      | inl y ↦ rw y (omega (arith, length-append (made course course.len) (following course course.len last ∷ [])))
      | inr n ↦ rw n len
    ]

pub final_number : (course : Course) → (final course).number ≤ course.len + 1
final_number course =
    let h = latest_number course course.len in
    elim (cases_Bool (makes_at_end course)) [ inl y ↦ rw y (omega arith) | inr n ↦ rw n (omega arith) ]

pub final_within : (course : Course) → (final course).count ≤ course.len
final_within course =
    let h = latest_within course course.len in
    elim (cases_Bool (makes_at_end course)) [ inl y ↦ rw y (omega arith) | inr n ↦ rw n h ]

-- what stands in a list with one more behind it
get_either : {X : Type 0} (P : ℕ → X → Type 0) (xs : List X) (y : X) → ((v : ℕ) (x : X) → slice_get xs v ≡ Some x → P v x) → P (length xs) y →
    (v : ℕ) (x : X) → slice_get (xs ++ y ∷ []) v ≡ Some x → P v x
get_either P [] y before last zero x e = subst (P 0) (same_Some _ _ e) last
get_either P [] y before last (suc v) x e = absurd (none-some _ e)
get_either P (z ∷ zs) y before last zero x e = before zero x e
get_either {X} P (z ∷ zs) y before last (suc v) x e =
    get_either (λ n a. P (suc n) a) zs y (λ n a h. before (suc n) a h) (let h : length (z ∷ zs) ≡ suc (length zs) = refl in last) v x e

-- each version that the first m commands made has its place as its number
number-made : (course : Course) (m v : ℕ) (version : Version) → slice_get (made course m) v ≡ Some version → version.number ≡ v
unfolding made latest
number-made course zero zero version e = sym (ap (λ x. x.number) (same_Some _ _ e))
number-made course zero (suc v) version e = absurd (none-some _ e)
number-made course (suc m) v version e =
    let ih = number-made course m in
    let len = length-made course m in
    elim (next course m) [
      | Makes y l f ↦ get_either (λ n x. x.number ≡ n) (made course m) (latest course (suc m)) ih (rw l (omega arith)) v version (rw f at e)
      | Stays n l f ↦ ih v version (rw f at e)
    ]

-- each version has its place as its number
pub number-versions : (course : Course) (v : ℕ) (version : Version) → slice_get (versions course) v ≡ Some version → version.number ≡ v
number-versions course v version e =
    let before = number-made course course.len in
    let len = length-made course course.len in
    elim (cases_Bool (makes_at_end course)) [
      | inl y ↦ get_either (λ n x. x.number ≡ n) (made course course.len) (following course course.len (latest course course.len)) before (omega arith) v version (rw y at e)
      | inr n ↦ before v version (rw n at e)
    ]

-- the last version behind the commands that a version counts is that version
pub latest-count : (course : Course) (m : ℕ) → latest course (latest course m).count ≡ latest course m
unfolding latest
latest-count course zero = refl
latest-count course (suc m) =
    let ih = latest-count course m in
    elim (next course m) [
      | Makes y l f ↦ ap (λ v. latest course v.count) l
      | Stays n l f ↦ rw l ih
    ]

-- what two elements one behind the other are in a list with one more behind it
next_either : {X : Type 0} (R : X → X → Type 0) (xs : List X) (y : X) → ((v : ℕ) (a b : X) → slice_get xs v ≡ Some a → slice_get xs (suc v) ≡ Some b → R a b) →
    ((a : X) (v : ℕ) → length xs ≡ suc v → slice_get xs v ≡ Some a → R a y) →
    (v : ℕ) (a b : X) → slice_get (xs ++ y ∷ []) v ≡ Some a → slice_get (xs ++ y ∷ []) (suc v) ≡ Some b → R a b
next_either R [] y before last v a b e f = absurd (none-some _ f)
next_either R (x ∷ []) y before last zero a b e f = let last_is : y ≡ b = same_Some _ _ f in subst (R a) last_is (last a zero refl e)
next_either R (x ∷ z ∷ zs) y before last zero a b e f = before zero a b e f
next_either R (x ∷ zs) y before last (suc v) a b e f =
    next_either R zs y (λ n c d g h. before (suc n) c d g h) (λ c n len g. last c (suc n) (let m : length (x ∷ zs) ≡ suc (length zs) = refl in omega (arith, len)) g) v a b e f

-- of two versions one behind the other the second has the module that is chosen where the first is the last
kind-made : (course : Course) (m v : ℕ) (a b : Version) → slice_get (made course m) v ≡ Some a → slice_get (made course m) (suc v) ≡ Some b → b.kind ≡ course.choice b.count a.kind
unfolding made latest
kind-made course zero v a b e f = absurd (none-some _ f)
kind-made course (suc m) v a b e f =
    let ih = kind-made course m in
    let len = length-made course m in
    let end = get-made-last course m in
    elim (next course m) [
      | Makes y l g ↦ next_either (λ c d. d.kind ≡ course.choice d.count c.kind) (made course m) (latest course (suc m)) ih
          (λ c n is at.
          let here : n ≡ (latest course m).number = omega arith in
          let same : latest course m ≡ c = same_Some _ _ (sym end ∙ ap (slice_get (made course m)) (sym here) ∙ at) in
          rw l (ap (λ x. course.choice (suc m) x.kind) same))
          v a b (rw g at e) (rw g at f)
      | Stays n l g ↦ ih v a b (rw g at e) (rw g at f)
    ]

pub kind-versions : (course : Course) (v : ℕ) (a b : Version) → slice_get (versions course) v ≡ Some a → slice_get (versions course) (v + 1) ≡ Some b → b.kind ≡ course.choice b.count a.kind
kind-versions course v a b e f =
    let before = kind-made course course.len in
    let len = length-made course course.len in
    let end = get-made-last course course.len in
    let f' : slice_get (versions course) (suc v) ≡ Some b = rw add-one at f in
    elim (cases_Bool (makes_at_end course)) [
      | inl y ↦ next_either (λ c d. d.kind ≡ course.choice d.count c.kind) (made course course.len) (following course course.len (latest course course.len)) before
          (λ c n is at.
          let here : n ≡ (latest course course.len).number = omega arith in
          let same : latest course course.len ≡ c = same_Some _ _ (sym end ∙ ap (slice_get (made course course.len)) (sym here) ∙ at) in
          ap (λ x. course.choice course.len x.kind) same)
          v a b (rw y at e) (rw y at f')
      | inr n ↦ before v a b (rw n at e) (rw n at f')
    ]

-- version 0
pub latest-zero : (course : Course) → latest course 0 ≡ record { number = 0; count = 0; kind = Range }
unfolding latest
latest-zero course = refl
