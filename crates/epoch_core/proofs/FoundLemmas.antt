-- What a step found can't be made up: where each seat's steps are its part of one history before and after, a step that one
-- seat has more is the last on a word, so it found what the steps before it leave there.
use Rattle.std.proofs.Common.{◌≡◌, ◌≢◌, ◌⊎◌, ℕ, zero, suc, ◌+◌, ◌<◌, ◌≤◌, Bool, true, false, if◌then◌else◌, nat_lt, List, [], ◌∷◌, ◌++◌, length, refl, sym, ap, ◌∙◌, subst, inl, inr, ⊎_elim, arith}
use Rattle.std.specs.Prelude.{filter}
use Rattle.std.proofs.lemmas.Bool.{cases_Bool}
use Rattle.std.proofs.lemmas.Bool.Decides.{nat_tests}
use mathlib.Core.Logic.{dite}
use native.Mathlib.Decide.{ℕ_discrete}
use Rattle.epoch_core.specs.declared.event.Event.{Event}
use Rattle.epoch_core.specs.declared.event.Event.TheVariants.{Look, Announce, Enter, Leave, Scan, Publish, Split, Join, Hit, Reassign}
use Rattle.epoch_core.specs.declared.view.Made.{Made}
use Rattle.epoch_core.specs.World.{World}
use Rattle.epoch_core.specs.Step.{enabled, effect, step, run}
use Rattle.epoch_core.specs.History.{number_of, counted, place_of, made_of, made}
use Rattle.epoch_core.proofs.ReaderSteps.{takes_effect}

-- the step is one of the list
abbrev pub In : Made → List Made → Type 0
In x [] = ⊥
In x (y ∷ ys) = (x ≡ y) ⊎ In x ys

-- each step has the place that its event has after those before it
abbrev pub Rising : ℕ → List Made → Type 0
Rising n [] = Unit {0}
Rising n (m ∷ ms) = (m.at ≡ place_of n m.event) × Rising (counted n m.event) ms

pub in_front : (x : Made) (xs ys : List Made) → In x xs → In x (xs ++ ys)
in_front x [] ys has = absurd has
in_front x (z ∷ xs) ys (inl e) = inl e
in_front x (z ∷ xs) ys (inr has) = inr (in_front x xs ys has)

pub in_last : (x : Made) (xs : List Made) → In x (xs ++ x ∷ [])
in_last x [] = inl refl
in_last x (z ∷ xs) = inr (in_last x xs)

pub in_part : (p : Event → Bool) (x : Made) (ms : List Made) → p x.event ≡ true → In x ms → In x (filter (λ m. p m.event) ms)
in_part p x [] is has = absurd has
in_part p x (m ∷ ms) is (inl e) = rw (ap (λ z. p z.event) (sym e) ∙ is) (inl e)
in_part p x (m ∷ ms) is (inr has) = go (p m.event) (in_part p x ms is has)
  where
    go : (t : Bool) → In x (filter (λ m. p m.event) ms) → In x (if t then m ∷ filter (λ m. p m.event) ms else filter (λ m. p m.event) ms)
    go true has = inr has
    go false has = has

pub of_part : (p : Event → Bool) (x : Made) (ms : List Made) → In x (filter (λ m. p m.event) ms) → In x ms × (p x.event ≡ true)
of_part p x [] has = absurd has
of_part p x (m ∷ ms) has = go (p m.event) refl has (λ h. of_part p x ms h)
  where
    go : (t : Bool) → p m.event ≡ t → In x (if t then m ∷ filter (λ m. p m.event) ms else filter (λ m. p m.event) ms) → (In x (filter (λ m. p m.event) ms) → In x ms × (p x.event ≡ true)) → In x (m ∷ ms) × (p x.event ≡ true)
    go true is (inl e) rest = (inl e, ap (λ z. p z.event) e ∙ is)
    go true is (inr h) rest = let r = rest h in (inr r.0, r.1)
    go false is h rest = let r = rest h in (inr r.0, r.1)

-- an event is on no word and isn't counted, or it is on the next
pub places : (n : ℕ) (e : Event) → ((place_of n e ≡ 0) × (counted n e ≡ n)) ⊎ ((place_of n e ≡ n + 1) × (counted n e ≡ n + 1))
places n (Look r) = inr (refl, refl)
places n (Announce r) = inr (refl, refl)
places n (Enter r) = inr (refl, refl)
places n (Leave r) = inr (refl, refl)
places n (Scan r) = inr (refl, refl)
places n (Publish m) = inr (refl, refl)
places n Split = inl (refl, refl)
places n (Join r k) = inl (refl, refl)
places n (Hit r i) = inr (refl, refl)
places n (Reassign i p) = inr (refl, refl)

pub made_rises : (K G n : ℕ) (w : World) (es : List Event) → Rising n (made K G n w es)
made_rises K G n w [] = tt
made_rises K G n w (e ∷ es) = go (enabled K G w e) (made_rises K G (counted n e) (step K G w e) es) (made_rises K G n (step K G w e) es)
  where
    go : (t : Bool) → Rising (counted n e) (made K G (counted n e) (step K G w e) es) → Rising n (made K G n (step K G w e) es) → Rising n (if t then made_of n w e ∷ made K G (counted n e) (step K G w e) es else made K G n (step K G w e) es)
    go true a b = (refl, a)
    go false a b = b

late : (n : ℕ) (ms : List Made) → Rising n ms → (x : Made) → In x ms → x.at ≢ 0 → n < x.at
late n [] up x has word = absurd has
late n (m ∷ ms) up x (inl e) word = let at : x.at ≡ m.at = ap (λ z. z.at) e in let place = up.0 in
    ⊎_elim (λ t. let z = t.0 in absurd (word (omega arith))) (λ t. let z = t.0 in omega arith) (places n m.event)
late n (m ∷ ms) up x (inr has) word = let l = late (counted n m.event) ms up.1 x has word in
    ⊎_elim (λ t. let z = t.1 in omega arith) (λ t. let z = t.1 in omega arith) (places n m.event)

-- no two steps are at one place
same_place : (n : ℕ) (ms : List Made) → Rising n ms → (x y : Made) → In x ms → In y ms → x.at ≡ y.at → x.at ≢ 0 → x ≡ y
same_place n [] up x y a b at word = absurd a
same_place n (m ∷ ms) up x y (inl e) (inl f) at word = e ∙ sym f
same_place n (m ∷ ms) up x y (inl e) (inr b) at word =
    let l = late (counted n m.event) ms up.1 y b (λ z. word (at ∙ z)) in
    let is : x.at ≡ m.at = ap (λ z. z.at) e in let place = up.0 in
    ⊎_elim (λ t. let z = t.0 in absurd (word (omega arith))) (λ t. let z = t.0 in let c = t.1 in absurd (omega arith)) (places n m.event)
same_place n (m ∷ ms) up x y (inr a) (inl f) at word =
    let l = late (counted n m.event) ms up.1 x a word in
    let is : y.at ≡ m.at = ap (λ z. z.at) f in let place = up.0 in
    ⊎_elim (λ t. let z = t.0 in absurd (word (omega arith))) (λ t. let z = t.0 in let c = t.1 in absurd (omega arith)) (places n m.event)
same_place n (m ∷ ms) up x y (inr a) (inr b) at word = same_place (counted n m.event) ms up.1 x y a b at word

-- below a place that some step has, each place has one
at_place : (n : ℕ) (ms : List Made) → Rising n ms → (y : Made) → In y ms → (t : ℕ) → n < t → t ≤ y.at → (x : Made) × In x ms × (x.at ≡ t)
at_place n [] up y has t low high = absurd has
at_place n (m ∷ ms) up y (inl e) t low high = let is : y.at ≡ m.at = ap (λ z. z.at) e in let place = up.0 in
    ⊎_elim (λ u. let z = u.0 in absurd (omega arith)) (λ u. let z = u.0 in (m, inl refl, omega arith)) (places n m.event)
at_place n (m ∷ ms) up y (inr has) t low high = let place = up.0 in
    dite (ℕ_discrete m.at t)
    (λ e. (m, inl refl, e))
    (λ apart. let r = at_place (counted n m.event) ms up.1 y has t (⊎_elim (λ u. let c = u.1 in omega arith) (λ u. let c = u.1 in let z = u.0 in omega arith) (places n m.event)) high in (r.0, inr r.1, r.2))

abbrev tail_of : List Made → List Made
tail_of [] = []
tail_of (x ∷ xs) = xs

abbrev head_or : Made → List Made → Made
head_or d [] = d
head_or d (x ∷ xs) = x

pub above_0 : (n : ℕ) → n ≢ 0 → 0 < n
above_0 zero w = absurd (w refl)
above_0 (suc n) w = omega arith

-- the last of a part is at a later place than each before it
before_last : (p : Event → Bool) (n : ℕ) (ms : List Made) → Rising n ms → (X : Made) → X.at ≢ 0 → (y : Made) → y.at ≢ 0 → (A : List Made) → filter (λ m. p m.event) ms ≡ A ++ X ∷ [] → In y A → y.at < X.at
before_last p n [] up X word y on [] e has = absurd has
before_last p n [] up X word y on (a ∷ A) e has = let l = ap (λ (z : List Made). length z) e in absurd (omega arith)
before_last p n (m ∷ ms) up X word y on A e has = go (p m.event) A e has (λ B f h. before_last p (counted n m.event) ms up.1 X word y on B f h)
  where
    go : (t : Bool) (A : List Made) → (if t then m ∷ filter (λ m. p m.event) ms else filter (λ m. p m.event) ms) ≡ A ++ X ∷ [] → In y A → ((B : List Made) → filter (λ m. p m.event) ms ≡ B ++ X ∷ [] → In y B → y.at < X.at) → y.at < X.at
    go false A e has more = more A e has
    go true [] e has more = absurd has
    go true (a ∷ A) e (inl is) more =
        let same : m ≡ a = ap (λ (z : List Made). head_or m z) e in
        let left : filter (λ m. p m.event) ms ≡ A ++ X ∷ [] = ap tail_of e in
        let there = (of_part p X ms (subst (λ z. In X z) (sym left) (in_last X A))).0 in
        let l = late (counted n m.event) ms up.1 X there word in
        let at : y.at ≡ m.at = ap (λ (z : Made). z.at) (is ∙ sym same) in let place = up.0 in
        ⊎_elim (λ t. let z = t.0 in absurd (on (omega arith))) (λ t. let z = t.0 in let c = t.1 in omega arith) (places n m.event)
    go true (a ∷ A) e (inr h) more = more A (ap tail_of e) h

-- a seat whose part p has one step more in the second history, where each step of the first is too
module _ (p : Event → Bool) (ms ms' : List Made) (up : Rising 0 ms) (up' : Rising 0 ms') (X : Made) (word : X.at ≢ 0) (mine : p X.event ≡ true)
    (grown : filter (λ m. p m.event) ms' ≡ filter (λ m. p m.event) ms ++ X ∷ []) (kept_in : (x : Made) → In x ms → In x ms') where
  pub is_in : In X ms'
  is_in = (of_part p X ms' (subst (λ z. In X z) (sym grown) (in_last X (filter (λ m. p m.event) ms)))).0

  -- that step is later than each of the first
  pub is_last : (y : Made) → In y ms → y.at ≢ 0 → y.at < X.at
  is_last y has on = ⊎_elim
      (λ t. grind (arith, nat_tests))
      (λ f.
      let high : X.at ≤ y.at = grind (arith, nat_tests) in
      let r = at_place 0 ms up y has X.at (above_0 X.at word) high in
      let same : r.0 ≡ X = same_place 0 ms' up' r.0 X (kept_in r.0 r.1) is_in r.2 (λ z. word (sym r.2 ∙ z)) in
      let there = in_part p X ms mine (subst (λ z. In z ms) same r.1) in
      let l = before_last p 0 ms' up' X word X word (filter (λ m. p m.event) ms) grown there in absurd (omega arith))
      (cases_Bool (nat_lt y.at X.at))

-- a number of the world that the steps of the part p alone change, as upd says
module _ (K G : ℕ) (V : World → ℕ) (p : Event → Bool) (upd : ℕ → Event → ℕ → ℕ)
    (moves : (w : World) (e : Event) → enabled K G w e ≡ true → V (effect K w e) ≡ (if p e then upd (V w) e (number_of w e) else V w))
    (still : (n a : ℕ) (e : Event) (k : ℕ) → place_of n e ≡ 0 → upd a e k ≡ a) where
  abbrev part : List Made → List Made
  part ms = filter (λ m. p m.event) ms

  abbrev pub last : ℕ → List Made → ℕ
  last a [] = a
  last a (m ∷ ms) = last (upd a m.event m.number) ms

  one_step : (n : ℕ) (w : World) (e : Event) (rest : List Made) → enabled K G w e ≡ true → last (V w) (part (made_of n w e ∷ rest)) ≡ last (V (step K G w e)) (part rest)
  one_step n w e rest on =
      let to : V (step K G w e) ≡ (if p e then upd (V w) e (number_of w e) else V w) = ap V (sym (takes_effect K G w e on)) ∙ moves w e on in
      go (p e) ∙ ap (λ a. last a (part rest)) (sym to)
    where
      go : (t : Bool) → last (V w) (if t then made_of n w e ∷ part rest else part rest) ≡ last (if t then upd (V w) e (number_of w e) else V w) (part rest)
      go true = refl
      go false = refl

  no_step : (w : World) (e : Event) → enabled K G w e ≡ false → V w ≡ V (step K G w e)
  no_step w e off = ap V (rw off refl)

  -- the steps of the part lead to the number
  pub runs : (n : ℕ) (w : World) (es : List Event) → last (V w) (part (made K G n w es)) ≡ V (run K G w es)
  runs n w [] = refl
  runs n w (e ∷ es) = go (enabled K G w e) refl (runs (counted n e) (step K G w e) es) (runs n (step K G w e) es)
    where
      go : (t : Bool) → enabled K G w e ≡ t → last (V (step K G w e)) (part (made K G (counted n e) (step K G w e) es)) ≡ V (run K G (step K G w e) es) → last (V (step K G w e)) (part (made K G n (step K G w e) es)) ≡ V (run K G (step K G w e) es)
          → last (V w) (part (if t then made_of n w e ∷ made K G (counted n e) (step K G w e) es else made K G n (step K G w e) es)) ≡ V (run K G (step K G w e) es)
      go true on a b = one_step n w e (made K G (counted n e) (step K G w e) es) on ∙ a
      go false off a b = ap (λ z. last z (part (made K G n (step K G w e) es))) (no_step w e off) ∙ b

  quiet : (n : ℕ) (ms : List Made) → Rising n ms → ((y : Made) → In y ms → p y.event ≡ true → y.at ≡ 0) → (a : ℕ) → last a (part ms) ≡ a
  quiet n [] up none a = refl
  quiet n (m ∷ ms) up none a = go (p m.event) refl (λ b. quiet (counted n m.event) ms up.1 (λ y h. none y (inr h)) b)
    where
      go : (t : Bool) → p m.event ≡ t → ((b : ℕ) → last b (part ms) ≡ b) → last a (if t then m ∷ part ms else part ms) ≡ a
      go true is more = more (upd a m.event m.number) ∙ still n a m.event m.number (sym up.0 ∙ none m (inl refl) is)
      go false is more = more a

  -- a step that reads the number, after all of the part that are on words, found what the part leads to
  pub found_is : (n : ℕ) (w : World) (es : List Event) (X : Made) → In X (made K G n w es) → ((w : World) → number_of w X.event ≡ V w) → p X.event ≡ false → X.at ≢ 0
      → ((y : Made) → In y (made K G n w es) → p y.event ≡ true → y.at ≢ 0 → y.at < X.at) → X.number ≡ last (V w) (part (made K G n w es))
  found_is n w [] X has reads other word after = absurd has
  found_is n w (e ∷ es) X has reads other word after = go (enabled K G w e) refl has after (λ h f. found_is (counted n e) (step K G w e) es X h reads other word f) (λ h f. found_is n (step K G w e) es X h reads other word f)
    where
      go : (t : Bool) → enabled K G w e ≡ t → In X (if t then made_of n w e ∷ made K G (counted n e) (step K G w e) es else made K G n (step K G w e) es)
          → ((y : Made) → In y (if t then made_of n w e ∷ made K G (counted n e) (step K G w e) es else made K G n (step K G w e) es) → p y.event ≡ true → y.at ≢ 0 → y.at < X.at)
          → (In X (made K G (counted n e) (step K G w e) es) → ((y : Made) → In y (made K G (counted n e) (step K G w e) es) → p y.event ≡ true → y.at ≢ 0 → y.at < X.at) → X.number ≡ last (V (step K G w e)) (part (made K G (counted n e) (step K G w e) es)))
          → (In X (made K G n (step K G w e) es) → ((y : Made) → In y (made K G n (step K G w e) es) → p y.event ≡ true → y.at ≢ 0 → y.at < X.at) → X.number ≡ last (V (step K G w e)) (part (made K G n (step K G w e) es)))
          → X.number ≡ last (V w) (part (if t then made_of n w e ∷ made K G (counted n e) (step K G w e) es else made K G n (step K G w e) es))
      go true on (inl is) after a b =
          let rest : List Made = made K G (counted n e) (step K G w e) es in
          let event : X.event ≡ e = ap (λ (z : Made). z.event) is in
          let at : X.at ≡ place_of n e = ap (λ (z : Made). z.at) is in
          let number : X.number ≡ V w = ap (λ (z : Made). z.number) is ∙ (ap (λ z. number_of w z) (sym event) ∙ reads w) in
          let skips : p e ≡ false = ap p (sym event) ∙ other in
          let none : last (V w) (part rest) ≡ V w = quiet (counted n e) rest (made_rises K G (counted n e) (step K G w e) es) (λ y h is_p. dite (ℕ_discrete y.at 0) (λ z. z) (λ on_word.
          let l = late (counted n e) rest (made_rises K G (counted n e) (step K G w e) es) y h on_word in let u = after y (inr h) is_p on_word in
          ⊎_elim (λ t. let z = t.0 in absurd (word (omega arith))) (λ t. let z = t.0 in let c = t.1 in absurd (omega arith)) (places n e))) (V w) in
          number ∙ (sym none ∙ sym (ap (λ (t : Bool). last (V w) (if t then made_of n w e ∷ part rest else part rest)) skips))
      go true on (inr h) after a b = a h (λ y z. after y (inr z)) ∙ sym (one_step n w e (made K G (counted n e) (step K G w e) es) on)
      go false off h after a b = b h after ∙ ap (λ z. last z (part (made K G n (step K G w e) es))) (sym (no_step w e off))

  -- a step that reads the number and is the last of the part found what the others of the part lead to
  pub found_last : (n : ℕ) (w : World) (es : List Event) (A : List Made) (X : Made) → part (made K G n w es) ≡ A ++ X ∷ [] → ((w : World) → number_of w X.event ≡ V w) → X.number ≡ last (V w) A
  found_last n w [] [] X is reads = let l = ap (λ (z : List Made). length z) is in absurd (omega arith)
  found_last n w [] (a ∷ A) X is reads = let l = ap (λ (z : List Made). length z) is in absurd (omega arith)
  found_last n w (e ∷ es) A X is reads =
      go (enabled K G w e) refl A is (λ B f. found_last (counted n e) (step K G w e) es B X f reads) (λ B f. found_last n (step K G w e) es B X f reads)
    where
      after : (t : Bool) (A rest : List Made) → (if t then made_of n w e ∷ part rest else part rest) ≡ A ++ X ∷ [] → V (step K G w e) ≡ (if t then upd (V w) e (number_of w e) else V w)
          → ((B : List Made) → part rest ≡ B ++ X ∷ [] → X.number ≡ last (V (step K G w e)) B) → X.number ≡ last (V w) A
      after false A rest is to a = a A is ∙ ap (λ z. last z A) to
      after true [] rest is to a =
          let same : made_of n w e ≡ X = ap (λ (z : List Made). head_or X z) is in
          ap (λ (z : Made). z.number) (sym same) ∙ (ap (λ (z : Made). number_of w z.event) same ∙ reads w)
      after true (x ∷ A) rest is to a =
          let same : made_of n w e ≡ x = ap (λ (z : List Made). head_or x z) is in
          a A (ap tail_of is) ∙ (ap (λ z. last z A) to ∙ ap (λ (z : Made). last (upd (V w) z.event z.number) A) same)

      go : (t : Bool) → enabled K G w e ≡ t → (A : List Made) → part (if t then made_of n w e ∷ made K G (counted n e) (step K G w e) es else made K G n (step K G w e) es) ≡ A ++ X ∷ []
          → ((B : List Made) → part (made K G (counted n e) (step K G w e) es) ≡ B ++ X ∷ [] → X.number ≡ last (V (step K G w e)) B)
          → ((B : List Made) → part (made K G n (step K G w e) es) ≡ B ++ X ∷ [] → X.number ≡ last (V (step K G w e)) B)
          → X.number ≡ last (V w) A
      go true on A is a b = after (p e) A (made K G (counted n e) (step K G w e) es) is (ap V (sym (takes_effect K G w e on)) ∙ moves w e on) a
      go false off A is a b = b A is ∙ ap (λ z. last z A) (sym (no_step w e off))
