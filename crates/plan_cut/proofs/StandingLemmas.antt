-- A cutter that stands at a position stands at the next one after a step, and cuts where a version is made.
use Rattle.std.proofs.Common.{◌≡◌, ℕ, zero, suc, ◌+◌, ◌-◌, ◌<◌, ◌≤◌, Bool, true, false, ◌&&◌, refl, sym, ◌∙◌, ap, subst, arith, inl, inr, add-one}
use Rattle.std.specs.Prelude.{◌==◌, nat_le, nat_lt, if◌then◌else◌}
use Rattle.std.proofs.lemmas.Bool.{cases_Bool, cases_lt, leb-true, ne_eqb, eq-eqb, lt-ltb, le-ltb, and_left, and_right, and_from, cond_both}
use Rattle.std.proofs.lemmas.Bool.Decides.{nat_tests}
use Rattle.plan_cut.specs.Course.{Beat, Edits, Ticks, Syncs, Algos, Course, IsCommand, ms_of}
use Rattle.plan_cut.specs.Counters.{Counters, tally, moment, start, count, newer, counters_at}
use Rattle.plan_cut.specs.Versions.{Version, asks, makes_after, following, latest, makes, differs_at}
use Rattle.plan_cut.specs.Standing.{StandsAt}

-- the numbers once the milliseconds of a command have passed
abbrev pub passed : Beat → Counters → Counters
passed beat now = record now { moment = now.moment + ms_of beat }

-- the numbers once a change has opened a new bucket, where the last is 50 milliseconds old or older
abbrev pub opened : Counters → Counters
opened now = if nat_le 50 (now.moment - now.start) then record now { start = now.moment; count = 0 } else now

-- the numbers with one change more
abbrev pub raised : Counters → Counters
raised now = record now { count = now.count + 1; pending = now.pending + 1 }

-- the numbers once a command has been counted
abbrev pub counted : Bool → Beat → Counters → Counters
counted changed beat now = if changed then raised (opened (passed beat now)) else passed beat now

-- the numbers once it is decided whether a version is cut
abbrev settled : Bool → Counters → Counters
settled now s = if now then record s { pending = 0 } else s

-- a bucket doesn't start in the future
pub start-le_moment : (course : Course) (m : ℕ) → start course m ≤ moment course m
unfolding start moment
start-le_moment course zero = omega arith
start-le_moment course (suc m) =
    let ih = start-le_moment course m in
    cond_both (course.changed (suc m) && nat_le 50 (moment course (suc m) - start course m)) (moment course (suc m)) (start course m)
    (λ s. s ≤ moment course (suc m))
    (λ _. omega arith)
    (λ _. omega arith)

pub start_rises : (course : Course) (m : ℕ) → start course m ≤ start course (suc m)
unfolding start moment
start_rises course m =
    let ih = start-le_moment course m in
    cond_both (course.changed (suc m) && nat_le 50 (moment course (suc m) - start course m)) (moment course (suc m)) (start course m)
    (λ s. start course m ≤ s)
    (λ _. omega arith)
    (λ _. omega arith)

pub start_later : (course : Course) (p m : ℕ) → p ≤ m → start course p ≤ start course m
start_later course p zero h = let e : p ≡ 0 = omega arith in rw e (omega arith)
start_later course p (suc m) h = elim (cases_lt p (suc m)) [
  | inl lt ↦ (let ih = start_later course p m (omega arith) in let up = start_rises course m in omega arith)
  | inr ge ↦ (let e : p ≡ suc m = omega arith in rw e (omega arith))
]

-- two tests that agree at each position count the same
pub tally_ext : (p q : ℕ → Bool) (m : ℕ) → ((k : ℕ) → 0 < k → k ≤ m → p k ≡ q k) → tally p m ≡ tally q m
unfolding tally
tally_ext p q zero same = refl
tally_ext p q (suc m) same =
    let ih = tally_ext p q m (λ k a b. same k a (omega arith)) in
    rw (same (suc m) (omega arith) (omega arith)) (ap (λ n. if q (suc m) then suc n else n) ih)

pub tally_none : (p : ℕ → Bool) (m : ℕ) → ((k : ℕ) → 0 < k → k ≤ m → p k ≡ false) → tally p m ≡ 0
unfolding tally
tally_none p zero none = refl
tally_none p (suc m) none =
    rw (none (suc m) (omega arith) (omega arith)) (tally_none p m (λ k a b. none k a (omega arith)))

pub tally_here : (p : ℕ → Bool) (m : ℕ) → p (suc m) ≡ true → tally p (suc m) ≡ tally p m + 1
unfolding tally
tally_here p m h = rw h (omega arith)

pub tally_past : (p : ℕ → Bool) (m : ℕ) → p (suc m) ≡ false → tally p (suc m) ≡ tally p m
unfolding tally
tally_past p m h = rw h refl

pub latest_within : (course : Course) (m : ℕ) → (latest course m).count ≤ m
unfolding latest
latest_within course zero = omega arith
latest_within course (suc m) =
    cond_both (makes_after course (suc m) (latest course m)) (following course (suc m) (latest course m)) (latest course m)
    (λ v. v.count ≤ suc m)
    (λ _. omega arith)
    (λ _. let ih = latest_within course m in omega arith)

-- the numbers of the next position, where it isn't changed
unchanged : (course : Course) (c m : ℕ) → course.changed (suc m) ≡ false → counters_at course c (suc m) ≡ passed (course.beat (suc m)) (counters_at course c m)
unfolding start moment
unchanged course c m off =
    let same : start course (suc m) ≡ start course m = rw off refl in
    let n : count course (suc m) ≡ count course m =
    tally_past (λ p. course.changed p && start course p == start course (suc m)) m (and_left _ _ off)
    ∙ ap (λ s. tally (λ p. course.changed p && start course p == s) m) same in
    let l : newer course c (suc m) ≡ newer course c m = tally_past (λ p. course.changed p && nat_lt c p) m (and_left _ _ off) in
    cc

-- the numbers of the next position, where it is changed
changed_on : (course : Course) (c m : ℕ) → c ≤ m → course.changed (suc m) ≡ true → counters_at course c (suc m) ≡ raised (opened (passed (course.beat (suc m)) (counters_at course c m)))
unfolding start moment
changed_on course c m h on =
    let l : newer course c (suc m) ≡ newer course c m + 1 = tally_here (λ p. course.changed p && nat_lt c p) m (rw on (lt-ltb c (suc m) (omega arith))) in
    elim (cases_Bool (nat_le 50 (moment course (suc m) - start course m))) [
      | inl y ↦
          (let s : start course (suc m) ≡ moment course (suc m) = rw on (rw y refl) in
          let far : 50 ≤ moment course (suc m) - start course m = leb-true _ _ y in
          let o : opened (passed (course.beat (suc m)) (counters_at course c m)) ≡ record { moment = moment course (suc m); start = moment course (suc m); count = 0; pending = newer course c m } = rw y refl in
          let none : tally (λ p. course.changed p && start course p == start course (suc m)) m ≡ 0 =
          tally_none _ m (λ k a b. and_right _ _ (ne_eqb (start course k) (start course (suc m)) (λ e. let up = start_later course k m b in absurd (omega arith)))) in
          let n : count course (suc m) ≡ 1 =
          tally_here (λ p. course.changed p && start course p == start course (suc m)) m (and_from _ _ on (eq-eqb (start course (suc m)) (start course (suc m)) refl)) ∙ ap (λ x. x + 1) none in
          rw o (record_eq _ _ _ _ _ _ _ _ refl s n l))
      | inr n ↦
          (let s : start course (suc m) ≡ start course m = rw on (rw n refl) in
          let o : opened (passed (course.beat (suc m)) (counters_at course c m)) ≡ record { moment = moment course (suc m); start = start course m; count = count course m; pending = newer course c m } = rw n refl in
          let n : count course (suc m) ≡ count course m + 1 =
          tally_here (λ p. course.changed p && start course p == start course (suc m)) m (and_from _ _ on (eq-eqb (start course (suc m)) (start course (suc m)) refl))
          ∙ ap (λ x. tally (λ p. course.changed p && start course p == x) m + 1) s in
          rw o (record_eq _ _ _ _ _ _ _ _ refl s n l))
    ]
  where
    record_eq : (a b c d a' b' c' d' : ℕ) → a ≡ a' → b ≡ b' → c ≡ c' → d ≡ d' → (let x : Counters = record { moment = a; start = b; count = c; pending = d } in x) ≡ record { moment = a'; start = b'; count = c'; pending = d' }
    record_eq a b c d a' b' c' d' p q r s = cc

-- what a command asks for doesn't depend on `differs` while something is pending
asks_same : (ch : Bool) (b : Beat) (d d' : Bool) (s : Counters) → asks ch b d s ≡ true → asks ch b d' s ≡ false → s.pending ≡ 0
asks_same ch Edits d d' s y n = cc
asks_same ch (Ticks ms) d d' s y n = cc
asks_same ch Syncs d d' s y n = cc
asks_same ch Algos d d' s y n = elim (cases_lt 0 s.pending) [
  | inl lt ↦ absurd (let e = lt-ltb 0 s.pending lt in let f = rw e at n in grind (arith, nat_tests))
  | inr le ↦ omega arith
]

pub counted_on : (course : Course) (c m : ℕ) → c ≤ m → counters_at course c (suc m) ≡ counted (course.changed (suc m)) (course.beat (suc m)) (counters_at course c m)
counted_on course c m h = elim (cases_Bool (course.changed (suc m))) [
  | inl on ↦ rw on (changed_on course c m h on)
  | inr off ↦ rw off (unchanged course c m off)
]

-- after a version made by command m nothing is pending
newer-self : (course : Course) (m : ℕ) → newer course m m ≡ 0
newer-self course m = tally_none _ m (λ k a b. and_right _ _ (le-ltb m k b))

-- the numbers after a step, whatever `differs` is, are those of the next position
stands_next : (course : Course) (m : ℕ) (d : Bool) → let now = counters_at course (latest course m).count (suc m) in
    StandsAt course (suc m) (settled (asks (course.changed (suc m)) (course.beat (suc m)) d now) now)
unfolding latest
stands_next course m d = go (asks ch b d now) (asks ch b d' now) refl refl
  where
    last : Version
    last = latest course m

    ch : Bool
    ch = course.changed (suc m)

    b : Beat
    b = course.beat (suc m)

    d' : Bool
    d' = differs_at course (suc m) last

    now : Counters
    now = counters_at course last.count (suc m)

    settle : (s : Counters) → s.pending ≡ 0 → settled true s ≡ s
    settle s h = ap (λ n. let x : Counters = record s { pending = n } in x) (sym h)

    go : (t t' : Bool) → asks ch b d now ≡ t → asks ch b d' now ≡ t' → settled t now ≡ counters_at course (if t' then following course (suc m) last else last).count (suc m)
    go true true y y' = let z = newer-self course (suc m) in cc
    go true false y n = settle now (asks_same ch b d d' now y n)
    go false true n y = let z = newer-self course (suc m) in let e = asks_same ch b d' d now y n in cc
    go false false n n' = refl

counted_now : (course : Course) (m : ℕ) (s : Counters) (ch : Bool) (b : Beat) → StandsAt course m s → IsCommand course (suc m) ch b →
    counted ch b s ≡ counters_at course (latest course m).count (suc m)
counted_now course m s ch b at is =
    let on = counted_on course (latest course m).count m (latest_within course m) in
    let e = is.same_change in
    let f = is.same_beat in
    cc

-- what a command makes of the numbers of a cutter that stands at m
pub counted_next : (course : Course) (m : ℕ) (new s : Counters) (ch : Bool) (b : Beat) → StandsAt course m s → IsCommand course (m + 1) ch b → new ≡ counted ch b s →
    new ≡ counters_at course (latest course m).count (m + 1)
counted_next course m new s ch b at is e =
    let P : ℕ → Type 0 = λ k. IsCommand course k ch b → counted ch b s ≡ counters_at course (latest course m).count k in
    e ∙ subst P (sym (add-one m)) (λ i. counted_now course m s ch b at i) is

pub stands_on : (course : Course) (m : ℕ) (new : Counters) (ch : Bool) (b : Beat) (d : Bool) → new ≡ counters_at course (latest course m).count (m + 1) → IsCommand course (m + 1) ch b →
    StandsAt course (m + 1) (settled (asks ch b d new) new)
stands_on course m new ch b d e is =
    let P : ℕ → Type 0 = λ k. new ≡ counters_at course (latest course m).count k → IsCommand course k ch b → StandsAt course k (settled (asks ch b d new) new) in
    let next = stands_next course m d in
    let there : P (suc m) = λ h i. let f = i.same_change in let g = i.same_beat in cc in
    subst P (sym (add-one m)) there e is

asks_by_algo : (ch : Bool) (b : Beat) (d d' : Bool) (s : Counters) → (b ≡ Algos → d ≡ d') → asks ch b d s ≡ asks ch b d' s
asks_by_algo ch Edits d d' s same = refl
asks_by_algo ch (Ticks ms) d d' s same = refl
asks_by_algo ch Syncs d d' s same = refl
asks_by_algo ch Algos d d' s same = ap (λ x. asks ch Algos x s) (same refl)

pub cuts_on : (course : Course) (m : ℕ) (new : Counters) (ch : Bool) (b : Beat) (d : Bool) → new ≡ counters_at course (latest course m).count (m + 1) → IsCommand course (m + 1) ch b →
    (b ≡ Algos → d ≡ differs_at course (m + 1) (latest course m)) → makes course (m + 1) ≡ asks ch b d new
cuts_on course m new ch b d e is same =
    let P : ℕ → Type 0 = λ k. new ≡ counters_at course (latest course m).count k → IsCommand course k ch b → (b ≡ Algos → d ≡ differs_at course k (latest course m)) → makes_after course k (latest course m) ≡ asks ch b d new in
    let there : P (suc m) = λ h i j.
    let f = i.same_change in
    let g = i.same_beat in
    let k = asks_by_algo ch b d (differs_at course (suc m) (latest course m)) new j in
    cc in
    let back : (m + 1) - 1 ≡ m = omega arith in
    rw back (subst P (sym (add-one m)) there e is same)

pub stands_now : (new : Counters) (course : Course) (m : ℕ) (ch : Bool) (b : Beat) (d : Bool) → asks ch b d new ≡ true →
    new ≡ counters_at course (latest course m).count (m + 1) → IsCommand course (m + 1) ch b → StandsAt course (m + 1) (record new { pending = 0 })
stands_now new course m ch b d y e is = let h = stands_on course m new ch b d e is in cc

pub stands_stay : (new : Counters) (course : Course) (m : ℕ) (ch : Bool) (b : Beat) (d : Bool) → asks ch b d new ≡ false →
    new ≡ counters_at course (latest course m).count (m + 1) → IsCommand course (m + 1) ch b → StandsAt course (m + 1) new
stands_stay new course m ch b d y e is = let h = stands_on course m new ch b d e is in cc

pub stands_new : (course : Course) → StandsAt course 0 (record { moment = 0; start = 0; count = 0; pending = 0 })
unfolding tally start moment latest
stands_new course = refl
