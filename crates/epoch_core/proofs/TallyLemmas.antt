-- What the control counts: the words that it tallies, added to what it has booked, and the list that it makes of them.
use Rattle.std.proofs.Common.{◌≡◌, ◌≢◌, ℕ, zero, suc, ◌+◌, ◌*◌, ◌/◌, ◌%◌, ◌<◌, ◌≤◌, Bool, true, false, eqb, if◌then◌else◌, List, [], ◌∷◌, ◌++◌, map, length, get_or, set, refl, sym, ap, ◌∙◌, subst, arith, nat_lt, length-set, get_or-set_other, get_or-set_same, eq-eqb, ne_eqb}
use Rattle.std.proofs.lemmas.Bool.Decides.{nat_tests}
use lib.ListN.{length-map}
use mathlib.Core.Logic.{dite}
use native.Mathlib.Decide.{ℕ_discrete}
use Rattle.atomic_table.specs.declared.shared.Seat.{Seat}
use Rattle.std.specs.Prelude.{Option}
use Rattle.epoch_core.specs.declared.view.ControlOwn.{ControlOwn}
use Rattle.epoch_core.specs.declared.view.Role.TheVariants.{Control}
use Rattle.epoch_core.specs.declared.view.View.{View}
use Rattle.epoch_core.specs.Counts.{counts_of, tallied_of, from_greatest, rising_counts, IsCounted}
use Rattle.epoch_core.specs.Plays.{tallies, tallied_control}
use Rattle.epoch_core.specs.Rule.{booked_of, control_own, control_own_of, index_word}
use Rattle.epoch_core.specs.SeatViews.{IsBooked}

-- the control's seat after a tally
pub record AfterTally {Q C : Type 0} (s t : Seat (Option C) (View Q)) (i found : ℕ) : Type 0 where
  pub slots : t.me.1 ≡ s.me.1
  pub key : t.me.0.key ≡ s.me.0.key
  pub steps : t.me.0.steps ≡ s.me.0.steps
  pub role : t.me.0.role ≡ Control (control_own t)
  pub own : control_own t ≡ tallied_control i found (control_own s)
  pub number : found / 4294967296 ≤ (control_own s).numbers
  pub small : found % 4294967296 ≤ 1073741824
  pub booked : (p : ℕ) → booked_of p (control_own s).booked ≤ 1073741824

pub after_tally : {Q C : Type 0} (s t : Seat (Option C) (View Q)) (word i found : ℕ) → s.me.0.role ≡ Control (control_own s) → word ≡ index_word i → tallies word s.me found t.me → AfterTally s t i found
after_tally s t word i found role e did =
    let went = did.1 i e (control_own s) role in
    let own : control_own t ≡ tallied_control i found (control_own s) = ap (λ (v : View _). control_own_of v.role) went.0 in
    record {
      slots = did.0;
      key = ap (λ (v : View _). v.key) went.0;
      steps = went.1.3;
      role = ap (λ (v : View _). v.role) went.0 ∙ ap (λ (d : ControlOwn). Control d) (sym own);
      own = own;
      number = went.1.0;
      small = went.1.1;
      booked = went.1.2;
    }

-- nothing is tallied yet
pub counted_first : (d : ControlOwn) (counts : List ℕ) → d.tallied ≡ [] → IsBooked d counts → IsCounted d counts
counted_first d counts none books =
    let zero_of : (p : ℕ) → tallied_of p d.tallied ≡ 0 = λ p. ap (tallied_of p) none in
    record {
      long = books.0;
      each = λ p l. let b = books.1 p l in let z = zero_of p in omega arith;
      above = λ p l. let b = books.2 p l in let z = zero_of p in omega arith;
      small = λ p. let z = zero_of p in omega arith;
    }

counts_here : (p n c : ℕ) → p ≡ n → (if eqb n p then c else 0) ≡ c
counts_here p n c e = rw (eq-eqb n p (sym e)) refl

counts_else : (p n c : ℕ) → p ≢ n → (if eqb n p then c else 0) ≡ 0
counts_else p n c d = rw (ne_eqb n p (λ e. d (sym e))) refl

counts_small : (p n c : ℕ) → c ≤ 1073741824 → (if eqb n p then c else 0) ≤ 1073741824
counts_small p n c l = dite (ℕ_discrete p n) (λ e. let h = counts_here p n c e in omega arith) (λ d. let h = counts_else p n c d in omega arith)

-- the counts after one more word is tallied
pub counted_after : (d : ControlOwn) (counts : List ℕ) (i found : ℕ) → IsCounted d counts → found / 4294967296 ≤ d.numbers → found % 4294967296 ≤ 1073741824
    → IsCounted (tallied_control i found d) (set counts (found / 4294967296) (get_or counts (found / 4294967296) 0 + found % 4294967296))
counted_after d counts i found was low few =
    let n : ℕ = found / 4294967296 in
    let c : ℕ = found % 4294967296 in
    let long = was.long in
    let new : ℕ = get_or counts n 0 + c in
    record {
      long = length-set counts n new ∙ was.long;
      each = λ p l. dite (ℕ_discrete p n)
          (λ e.
          let here : get_or (set counts n new) p 0 ≡ new = ap (λ k. get_or (set counts n new) k 0) e ∙ get_or-set_same counts n new 0 (omega arith) in
          let old = was.each n low in
          let added = counts_here p n c e in
          let books : booked_of p d.booked ≡ booked_of n d.booked = ap (λ k. booked_of k d.booked) e in
          let rest : tallied_of p d.tallied ≡ tallied_of n d.tallied = ap (λ k. tallied_of k d.tallied) e in
          omega arith)
          (λ e.
          let here : get_or (set counts n new) p 0 ≡ get_or counts p 0 = get_or-set_other counts n p new 0 e in
          let old = was.each p l in
          let added = counts_else p n c e in
          omega arith);
      above = λ p l. let old = was.above p l in let added = counts_else p n c (λ e. omega arith) in omega arith;
      small = λ p. let old = was.small p in let added = counts_small p n c few in omega arith;
    }

-- one more number is listed
pub rising_more : (count : ℕ → ℕ) (n : ℕ) (l : List (ℕ × ℕ)) → 0 < count n → l ≡ rising_counts count n → l ++ (n, count n) ∷ [] ≡ rising_counts count (n + 1)
rising_more count n l some is =
    let next : suc n ≡ n + 1 = omega arith in
    let on : eqb (count n) 0 ≡ false = ne_eqb (count n) 0 (λ e. omega arith) in
    ap (λ (k : List (ℕ × ℕ)). k ++ (n, count n) ∷ []) is ∙ (ap (λ (b : Bool). rising_counts count n ++ (if b then [] else (n, count n) ∷ [])) (sym on) ∙ ap (rising_counts count) next)

append_none : (l : List (ℕ × ℕ)) → l ≡ l ++ []
append_none [] = refl
append_none (c ∷ l) = ap (λ (k : List (ℕ × ℕ)). c ∷ k) (append_none l)

-- a number with no hits isn't
pub rising_none : (count : ℕ → ℕ) (n : ℕ) (l : List (ℕ × ℕ)) → count n ≡ 0 → l ≡ rising_counts count n → l ≡ rising_counts count (n + 1)
rising_none count n l none is =
    let next : suc n ≡ n + 1 = omega arith in
    let off : eqb (count n) 0 ≡ true = eq-eqb (count n) 0 none in
    is ∙ (append_none (rising_counts count n) ∙ (ap (λ (b : Bool). rising_counts count n ++ (if b then [] else (n, count n) ∷ [])) (sym off) ∙ ap (rising_counts count) next))

pub rising_same : (f g : ℕ → ℕ) (n : ℕ) → ((p : ℕ) → p < n → f p ≡ g p) → rising_counts f n ≡ rising_counts g n
rising_same f g zero same = refl
rising_same f g (suc n) same =
    let rest = rising_same f g n (λ p l. same p (omega arith)) in
    let here = same n (omega arith) in
    λ i. rest i ++ (if eqb (here i) 0 then [] else (n, here i) ∷ [])

-- the tallied indexes below n are n, and with n they are one more
pub tallied_length : (cs : List (ℕ × ℕ)) (n : ℕ) → map (λ c. c.0) cs ≡ from_greatest n → length cs ≡ n
tallied_length cs n e = sym (length-map cs (λ (c : ℕ × ℕ). c.0)) ∙ (ap (λ (l : List ℕ). length l) e ∙ long n)
  where
    long : (n : ℕ) → length (from_greatest n) ≡ n
    long zero = refl
    long (suc n) = ap suc (long n)

pub tallied_more : (cs : List (ℕ × ℕ)) (n found : ℕ) → map (λ c. c.0) cs ≡ from_greatest n → map (λ c. c.0) ((n, found) ∷ cs) ≡ from_greatest (n + 1)
tallied_more cs n found e = let next : suc n ≡ n + 1 = omega arith in ap (λ (l : List ℕ). n ∷ l) e ∙ ap from_greatest next
