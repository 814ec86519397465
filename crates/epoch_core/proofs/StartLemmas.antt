-- The table at the start meets the rule.
use Rattle.std.proofs.Common.{◌≡◌, ◌≢◌, ℕ, zero, suc, ◌+◌, ◌*◌, ◌%◌, ◌<◌, ◌≤◌, Bool, true, false, ◌&&◌, ◌==◌, nat_lt, eq-eqb, List, [], ◌∷◌, ◌++◌, map, length, length-append, get_or, replicate, Option, Some, None, refl, sym, ap, ◌∙◌, subst, arith, lit≤, lit<}
use mathlib.Core.Option.{some, some-injective, some-ne-none}
use mathlib.Core.Logic.{dite}
use native.Mathlib.Decide.{ℕ_discrete}
use lib.ListN.{get_elem?, length-map}
use Rattle.atomic_table.specs.Table.{opening}
use Rattle.epoch_core.specs.declared.view.View.{View}
use Rattle.epoch_core.specs.World as w
use Rattle.epoch_core.specs.World.{first_own}
use Rattle.epoch_core.specs.SeatViews.{ReaderView, AreFirstSeats}
use Rattle.atomic_table.specs.Seated.{TableId}
use Rattle.std.specs.Prelude.{slice_index_or}
use Rattle.epoch_core.specs.Rule.{RoleFits, KeyFits, PartFits, EpochRule, ValueFits, slot_of, opening_view, announcement_word, index_word}
use Rattle.std.proofs.lemmas.Bool.Decides.{nat_tests}
use Rattle.epoch_core.specs.Slots.{is_first_slot, FirstSlot, FirstSlots}
use Rattle.epoch_core.proofs.ReaderLemmas.{replaced_at_here, replaced_at_else}
use Rattle.epoch_core.proofs.WorldLemmas.{opening_sound}
use Rattle.epoch_core.proofs.ControlSteps.{lt_zero}
use Rattle.epoch_core.proofs.ReaderSteps.{lt_is}

pub first_slots_more : {C : Type 0} (P : C → Type 0) (n i : ℕ) (xs : List (Option C)) (x : Option C) → FirstSlots P n i xs → FirstSlot P n (i + length xs) x → FirstSlots P n i (xs ++ x ∷ [])
first_slots_more P n i [] x a ok = let e : i + 0 ≡ i = omega arith in (subst (λ (k : ℕ). FirstSlot P n k x) e ok, tt)
first_slots_more P n i (y ∷ ys) x a ok = let e : i + length (y ∷ ys) ≡ i + 1 + length ys = omega arith in (a.0, first_slots_more P n (i + 1) ys x a.1 (subst (λ (k : ℕ). FirstSlot P n k x) e ok))

pub first_slots_map : {C : Type 0} (P R : C → Type 0) (n i : ℕ) (xs : List (Option C)) → ((c : C) → P c → R c) → FirstSlots P n i xs → FirstSlots R n i xs
first_slots_map P R n i [] f a = tt
first_slots_map P R n i (x ∷ xs) f a = (((λ l. let t = a.0.0 l in (t.0, t.1, f t.0 t.2)), a.0.1), first_slots_map P R n (i + 1) xs f a.1)

first_slots_at : {C : Type 0} (P : C → Type 0) (n i : ℕ) (xs : List (Option C)) (j : ℕ) → FirstSlots P n i xs → j < length xs → (x : Option C) × (get_elem? (map some xs) j ≡ some (some x)) × FirstSlot P n (i + j) x
first_slots_at P n i [] j a l = absurd (omega arith)
first_slots_at P n i (x ∷ xs) zero a l = let e : i ≡ i + 0 = omega arith in (x, refl, subst (λ (k : ℕ). FirstSlot P n k x) e a.0)
first_slots_at P n i (x ∷ xs) (suc j) a l = let r = first_slots_at P n (i + 1) xs j a.1 (omega arith) in let e : i + 1 + j ≡ i + suc j = omega arith in (r.0, r.1, subst (λ (k : ℕ). FirstSlot P n k r.0) e r.2)

lt_not : (a b : ℕ) → b ≤ a → nat_lt a b ≡ false
lt_not a b l = grind (arith, nat_tests)

and_false : (t : Bool) → (t && false) ≡ false
and_false true = refl
and_false false = refl

-- the slot of a reader in bank 0 has the first version, and in another bank it has none
first_is : (n b r i : ℕ) → i ≡ slot_of b r → b ≡ 0 → r < n → is_first_slot n i ≡ true
first_is n b r i at e l =
    let even : i % 8 ≡ 0 = omega arith in
    let low : i < 8 * n = omega arith in
    rw (eq-eqb (i % 8) 0 even, lt_is i (8 * n) low) refl

first_is_not : (n b r i : ℕ) → i ≡ slot_of b r → b ≢ 0 → n ≤ 64 → is_first_slot n i ≡ false
first_is_not n b r i at e few =
    let high : 8 * n ≤ i = omega arith in
    rw (lt_not i (8 * n) high) (and_false (i % 8 == 0))

module _ {Q C : Type 0} (K G : ℕ) (two : 2 ≤ K) (lawful : Q → ℕ → C → Type 0) (names : Q → ℕ → List (ℕ × ℕ)) (key : Q) where
  pub table_starts : (n numbers : ℕ) (words : List ℕ) (slots : List (Option C)) → n ≤ 64 → length words ≡ 1040 + (G + 1) → ((i : ℕ) → i < 1040 + (G + 1) → get_or words i 0 ≡ 0) → length slots ≡ 512 * K → names key 0 ≡ [] → FirstSlots (lawful key 0) n 0 slots → EpochRule K G lawful names key (opening words slots (opening_view key n numbers))
  table_starts n numbers words slots few wide blank deep bare laid = record {
    world = w.opening n;
    owners = record { reader_seat = λ _. 0; note_seat = λ _. 0; control_seat = 0; opened = 0; ended = λ _. false };
    events = [];
    ran = refl;
    sound = opening_sound K G two n;
    few = few;
    low = lit< tt;
    wide = wide;
    deep = length-map slots (λ (x : Option C). some x) ∙ deep;
    cur_is = blank 0 (omega arith);
    ann_is = λ r l. blank (announcement_word r) (omega arith);
    word_is = λ i l. blank (index_word i) (omega arith);
    names_are = λ v l. no_names v (omega arith);
    each_view = go;
    each_place = λ r b l m. let got = first_slots_at (lawful key 0) n 0 slots (slot_of b r) laid (omega arith) in (
      got.0,
      got.1,
      dite (ℕ_discrete b 0)
          (λ e. let low = first_is n b r (0 + slot_of b r) (omega arith) e l in subst (λ z. ValueFits lawful key z got.0) (sym (replaced_at_here (λ _. None) 0 b (Some 0) e)) (got.2.0 low))
          (λ e. let high = first_is_not n b r (0 + slot_of b r) (omega arith) e few in subst (λ z. ValueFits lawful key z got.0) (sym (replaced_at_else (λ _. None) 0 b (Some 0) e)) (got.2.1 high)),
    );
  }
    where
      go : (j : ℕ) (v : View Q) → get_elem? (opening_view key n numbers ∷ []) j ≡ some v → KeyFits v.role (v.key ≡ key) × RoleFits (w.opening n) record { reader_seat = λ _. 0; note_seat = λ _. 0; control_seat = 0; opened = 0; ended = λ _. false } j v.role × PartFits [] v.role v.steps
      go zero v e = subst (λ (u : View Q). KeyFits u.role (u.key ≡ key) × RoleFits (w.opening n) record { reader_seat = λ _. 0; note_seat = λ _. 0; control_seat = 0; opened = 0; ended = λ _. false } 0 u.role × PartFits [] u.role u.steps) (some-injective _ _ e)
          (refl, record { its_seat = refl; readers_are = refl; version_is = refl; passed_are = (λ r l. lt_zero r); scans_are = refl; found_is = refl; made_are = refl; opened_are = refl; unopened = (λ q l. (refl, refl)); ended_fit = tt; once = tt; done_is = refl; booked_are = (λ p. refl); numbers_low = (λ i. omega arith); tally_fits = tt }, (refl, (λ r l. refl), tt))
      go (suc j) v e = absurd (some-ne-none v (sym e))

      no_names : (v : ℕ) → v ≡ 0 → [] ≡ names key v
      no_names v e = sym (ap (names key) e ∙ bare)

pub all_zero : (n i : ℕ) → get_or {A = ℕ} (replicate n 0) i 0 ≡ 0
all_zero zero i = refl
all_zero (suc n) zero = refl
all_zero (suc n) (suc i) = all_zero n i

pub zero_at : (n : ℕ) (ws : List ℕ) → ws ≡ replicate n 0 → (i : ℕ) → get_or ws i 0 ≡ 0
zero_at n ws e i = ap (λ l. get_or l i 0) e ∙ all_zero n i

at_front : {A : Type 0} (xs : List A) (x d : A) (i : ℕ) → i < length xs → slice_index_or (xs ++ x ∷ []) i d ≡ slice_index_or xs i d
at_front [] x d i l = absurd (omega arith)
at_front (y ∷ ys) x d zero l = refl
at_front (y ∷ ys) x d (suc i) l = at_front ys x d i (omega arith)

at_last : {A : Type 0} (xs : List A) (x d : A) → slice_index_or (xs ++ x ∷ []) (length xs) d ≡ x
at_last [] x d = refl
at_last (y ∷ ys) x d = at_last ys x d

-- one more seat is made
pub first_seats_more : {Q : Type 0} (z : TableId) (q : Q) (n : ℕ) (seats : List (ReaderView Q)) (x : ReaderView Q) → AreFirstSeats z q n seats → x ≡ record { table = z; key = q; number = n; own = first_own; steps = [] } → AreFirstSeats z q (n + 1) (seats ++ x ∷ [])
first_seats_more z q n seats x are is =
    let count = are.0 in (
      omega (arith, length-append seats (x ∷ [])),
      λ i d l. dite (ℕ_discrete i n)
          (λ e. ap (λ k. slice_index_or (seats ++ x ∷ []) k d) (e ∙ sym count) ∙ (at_last seats x d ∙ (is ∙ (λ j. record { table = z; key = q; number = sym e j; own = first_own; steps = [] }))))
          (λ n. at_front seats x d i (omega arith) ∙ are.1 i d (omega arith)),
    )
