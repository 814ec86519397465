-- What the control's seat is after a step, from what the step tells.
use Rattle.std.proofs.Common.{◌≡◌, ℕ, zero, suc, ◌+◌, ◌*◌, ◌/◌, ◌%◌, get_or, set, length-set, get_or-set_same, get_or-set_other, ◌<◌, ◌≤◌, ◌⊎◌, Bool, true, false, if◌then◌else◌, List, [], ◌∷◌, ◌++◌, map, length, Option, Some, sym, ap, ◌∙◌, subst, arith, length-append, append_assoc}
use Rattle.std.specs.Prelude.{All}
use Rattle.std.proofs.lemmas.Bool.Decides.{nat_tests}
use mathlib.Core.Logic.{dite}
use native.Mathlib.Decide.{ℕ_discrete}
use Rattle.atomic_table.specs.Table.{turned}
use Rattle.atomic_table.specs.Seated.{TableId}
use Rattle.atomic_table.specs.declared.shared.Seat.{Seat}
use Rattle.epoch_core.specs.declared.view.ControlOwn.{ControlOwn}
use Rattle.epoch_core.specs.declared.view.Role.TheVariants.{Control}
use Rattle.epoch_core.specs.declared.view.View.{View}
use Rattle.epoch_core.specs.declared.event.Event.TheVariants as event
use Rattle.epoch_core.specs.History.{OneMore}
use Rattle.epoch_core.specs.Step.{may_pass}
use Rattle.epoch_core.specs.Rule.{slot_of, control_own, control_own_of, booked_of, index_word}
use Rattle.epoch_core.specs.Plays.{reassigns, reassigned_control, scans, scanned_control, taken_places, filled_places, Each, StandsNext}
use Rattle.epoch_core.specs.SeatViews.{IsControlSeat, IsBooked}
use Rattle.epoch_core.specs.Fresh.{NamesFit}
use Rattle.prefix_width.specs.Limits.{last_index}

-- a reader that may not be passed stands, at a version a whole round back
pub not_passed : (K version found : ℕ) → may_pass K version found ≡ false → (0 < found) × (found + K ≤ version + 2)
not_passed K version found m = (grind (arith, nat_tests), grind (arith, nat_tests))

pub passes_by : (K version found : ℕ) → (found ≡ 0) ⊎ (version + 2 < found + K) → may_pass K version found ≡ true
passes_by K version found h = grind (arith, nat_tests)

pub blocks : (K version found : ℕ) → 0 < found → found + K ≤ version + 2 → may_pass K version found ≡ false
blocks K version found l h = grind (arith, nat_tests)

module _ {Q C : Type 0} (K live : ℕ) (lawful : Q → ℕ → C → Type 0) (names : Q → ℕ → List (ℕ × ℕ)) (s t : Seat (Option C) (View Q)) (z : TableId) (q : Q) (readers version passed : ℕ) (counts : List ℕ) (was : IsControlSeat K live lawful names s z q readers version passed counts) (same : t.table_id ≡ s.table_id) where
  module _ (found : ℕ) (did : scans lawful K s.me found t.me) where
    abbrev d : ControlOwn
    d = control_own s

    pub scanned_is : control_own t ≡ scanned_control K found (control_own s)
    scanned_is = ap (λ (v : View Q). control_own_of v.role) (did d was.role).0

    pub scanned_key : t.me.0.key ≡ s.me.0.key
    scanned_key = ap (λ (v : View Q). v.key) (did d was.role).0

    pub found_low : found ≤ version + 1
    found_low = let l = (did d was.role).1.0 in let e = was.numbers.0 in omega arith

    -- it has made one more step, and that is a scan, of the reader that was next, which found this word
    pub scanned_step : OneMore s.me.0.steps (event.Scan d.passed) found t.me.0.steps
    scanned_step = (did d was.role).1.3

    at_word : may_pass K d.version found ≡ may_pass K version found
    at_word = ap (λ (v : ℕ). may_pass K v found) was.numbers.0

    pub passed_on : may_pass K version found ≡ true → passed < readers → (IsControlSeat K live lawful names t z q readers version (passed + 1) counts) × ((control_own t).passed ≡ passed + 1)
    passed_on m l = let e = did d was.role in let now = scanned_is in let got = e.1.1 (at_word ∙ m) in let n : (control_own t).passed ≡ passed + 1 = ap (λ (u : ControlOwn). u.passed) now ∙ (ap (λ (b : Bool). if b then d.passed + 1 else d.passed) (at_word ∙ m) ∙ ap (λ (k : ℕ). k + 1) was.numbers.1) in
        let hands = was.hands in let many : length hands.0 ≡ passed = hands.2 in (
          record {
            table = same ∙ was.table;
            sized = was.sized;
            keyed = scanned_key ∙ was.keyed;
            role = ap (λ (v : View Q). v.role) e.0 ∙ ap (λ (u : ControlOwn). Control u) (sym now);
            counts = (ap (λ (u : ControlOwn). u.readers) now ∙ was.counts.0, was.counts.1, omega arith);
            low = was.low;
            clear = (ap (λ (u : ControlOwn). u.done) now ∙ was.clear.0, ap (λ (u : ControlOwn). u.tallied) now ∙ was.clear.1);
            books = subst (λ (u : ControlOwn). IsBooked u counts) (sym now) was.books;
            names_fit = subst (λ (u : ControlOwn). NamesFit (last_index K live) u.numbers (names q)) (sym now) was.names_fit;
            numbers = (ap (λ (u : ControlOwn). u.version) now ∙ was.numbers.0, n);
            hands = (got.0 ∷ hands.0, got.1 ∙ (λ i. (slot_of ((was.numbers.0 i + 1) % K) ((was.numbers.1 ∙ sym hands.2) i), got.0) ∷ hands.1 i), omega arith, (subst (λ (u : Q × ℕ). StandsNext lawful K u.0 u.1 got.0) (λ i. (was.keyed i, was.numbers.0 i)) got.2, hands.3));
          },
          n,
        )

    pub held_up : may_pass K version found ≡ false → (IsControlSeat K live lawful names t z q readers version passed counts) × ((control_own t).passed ≡ passed)
    held_up m = let e = did d was.role in let now = scanned_is in let n : (control_own t).passed ≡ passed = ap (λ (u : ControlOwn). u.passed) now ∙ (ap (λ (b : Bool). if b then d.passed + 1 else d.passed) (at_word ∙ m) ∙ was.numbers.1) in
        let hands = was.hands in (
          record {
            table = same ∙ was.table;
            sized = was.sized;
            keyed = scanned_key ∙ was.keyed;
            role = ap (λ (v : View Q). v.role) e.0 ∙ ap (λ (u : ControlOwn). Control u) (sym now);
            counts = (ap (λ (u : ControlOwn). u.readers) now ∙ was.counts.0, was.counts.1, was.counts.2);
            low = was.low;
            clear = (ap (λ (u : ControlOwn). u.done) now ∙ was.clear.0, ap (λ (u : ControlOwn). u.tallied) now ∙ was.clear.1);
            books = subst (λ (u : ControlOwn). IsBooked u counts) (sym now) was.books;
            names_fit = subst (λ (u : ControlOwn). NamesFit (last_index K live) u.numbers (names q)) (sym now) was.names_fit;
            numbers = (ap (λ (u : ControlOwn). u.version) now ∙ was.numbers.0, n);
            hands = (hands.0, e.1.2 (at_word ∙ m) ∙ hands.1, hands.2, hands.3);
          },
          n,
        )

-- the control's seat after a reassignment
pub record AfterReassign {Q C : Type 0} (s t : Seat (Option C) (View Q)) (i p found : ℕ) : Type 0 where
  pub slots : t.me.1 ≡ s.me.1
  pub key : t.me.0.key ≡ s.me.0.key
  pub role : t.me.0.role ≡ Control (control_own t)
  pub own : control_own t ≡ reassigned_control i p found (control_own s)
  pub number : found / 4294967296 ≤ (control_own s).numbers
  pub room : booked_of (found / 4294967296) (control_own s).booked + found % 4294967296 ≤ 1073741824
  pub step : OneMore s.me.0.steps (event.Reassign i p) found t.me.0.steps

pub after_reassign : {Q C : Type 0} (s t : Seat (Option C) (View Q)) (word new i p found : ℕ) → s.me.0.role ≡ Control (control_own s) → word ≡ index_word i → new ≡ p * 4294967296 → reassigns word new s.me found t.me → AfterReassign s t i p found
after_reassign s t word new i p found role e f did =
    let went = did.1 i p e f (control_own s) role in
    let own : control_own t ≡ reassigned_control i p found (control_own s) = ap (λ (v : View _). control_own_of v.role) went.0 in
    record {
      slots = did.0;
      key = ap (λ (v : View _). v.key) went.0;
      role = ap (λ (v : View _). v.role) went.0 ∙ ap (λ (d : ControlOwn). Control d) (sym own);
      own = own;
      number = went.1.0;
      room = went.1.1;
      step = went.1.2;
    }

-- the books after a reassignment
pub books_after : (d : ControlOwn) (counts : List ℕ) (i p found : ℕ) → IsBooked d counts → found / 4294967296 ≤ d.numbers
    → IsBooked (reassigned_control i p found d) (set counts (found / 4294967296) (get_or counts (found / 4294967296) 0 + found % 4294967296))
books_after d counts i p found books low =
    let n : ℕ = found / 4294967296 in
    let c : ℕ = found % 4294967296 in
    let long = books.0 in (
      length-set counts n (get_or counts n 0 + c) ∙ books.0,
      λ q l. dite (ℕ_discrete q n)
          (λ e.
          let here : get_or (set counts n (get_or counts n 0 + c)) q 0 ≡ get_or counts n 0 + c = ap (λ k. get_or (set counts n (get_or counts n 0 + c)) k 0) e ∙ get_or-set_same counts n (get_or counts n 0 + c) 0 (omega arith) in
          let old = books.1 n low in
          let same : booked_of q d.booked ≡ booked_of n d.booked = ap (λ k. booked_of k d.booked) e in
          here ∙ booked_here q n c d.booked e (get_or counts n 0) old)
          (λ e. get_or-set_other counts n q (get_or counts n 0 + c) 0 e ∙ (books.1 q l ∙ booked_else q n c d.booked e)),
      λ q l. sym (booked_else q n c d.booked (λ e. omega arith)) ∙ books.2 q l,
    )
  where
    booked_here : (q n c : ℕ) (l : List (ℕ × ℕ)) → q ≡ n → (m : ℕ) → m ≡ booked_of n l → m + c ≡ booked_of q ((n, c) ∷ l)
    booked_here q n c l e m old = let same : booked_of q l ≡ booked_of n l = ap (λ k. booked_of k l) e in grind (arith, nat_tests)

    booked_else : (q n c : ℕ) (l : List (ℕ × ℕ)) → ¬ (q ≡ n) → booked_of q l ≡ booked_of q ((n, c) ∷ l)
    booked_else q n c l e = grind (arith, nat_tests)

-- one more place is filled
module _ {C : Type 0} where
  pub filled_more : (b m : ℕ) (cs : List C) (c : C) → filled_places b (m + 1) cs ++ (slot_of b m, Some c) ∷ [] ≡ filled_places b m (cs ++ c ∷ [])
  filled_more b m [] c = let e : m ≡ m + 0 = omega arith in ap (λ (k : ℕ). (slot_of b k, Some c) ∷ []) e
  filled_more b m (x ∷ cs) c = let e : m + 1 + length cs ≡ m + length (cs ++ c ∷ []) = omega (arith, length-append cs (c ∷ [])) in λ i. (slot_of b (e i), Some x) ∷ filled_more b m cs c i

  pub each_more : (P : C → Type 0) (cs : List C) (c : C) → Each P cs → P c → Each P (cs ++ c ∷ [])
  each_more P [] c e p = (p, tt)
  each_more P (x ∷ cs) c e p = (e.0, each_more P cs c e.1 p)

  pub each_less : (P : C → Type 0) (cs : List C) (c : C) → Each P (cs ++ c ∷ []) → Each P cs × P c
  each_less P [] c e = (tt, e.0)
  each_less P (x ∷ cs) c e = let r = each_less P cs c e.1 in ((e.0, r.0), r.1)

  -- the slot taken last is filled and goes behind the others
  pub filled : (b : ℕ) (y : Option C) (ys : List (Option C)) (cs : List C) (c : C) → turned ((slot_of b (length ys), Some c) ∷ (taken_places b ys ++ filled_places b (length ys + 1) cs)) ≡ taken_places b ys ++ filled_places b (length ys) (cs ++ c ∷ [])
  filled b y ys cs c = append_assoc (taken_places b ys) (filled_places b (length ys + 1) cs) ((slot_of b (length ys), Some c) ∷ []) ∙ ap (λ l. taken_places b ys ++ l) (filled_more b (length ys) cs c)

  pub head_taken : (b n : ℕ) (ys : List (Option C)) (l : List (ℕ × Option C)) → length ys ≡ n + 1 → (y : Option C) × (zs : List (Option C)) × (length zs ≡ n) × (taken_places b ys ++ l ≡ (slot_of b n, y) ∷ (taken_places b zs ++ l))
  head_taken b n [] l e = absurd (omega arith)
  head_taken b n (y ∷ ys) l e = let same : length ys ≡ n = omega arith in (y, ys, same, λ i. (slot_of b (same i), y) ∷ (taken_places b ys ++ l))

-- what holds of all values holds of each handle
pub all_each : {A B : Type 0} (P : B → Type 0) (f : A → B) (xs : List A) → All P (map f xs) → Each (λ x. P (f x)) xs
all_each P f [] a = tt
all_each P f (x ∷ xs) a = (a 0 (f x) (omega arith), all_each P f xs (λ k d l. a (suc k) d (omega arith)))

-- what holds of the value of each handle holds of all values
pub map_all : {A B : Type 0} (P : B → Type 0) (f : A → B) (xs : List A) → All (λ x. P (f x)) xs → All P (map f xs)
map_all P f [] a k d l = absurd (omega arith)
map_all P f (x ∷ xs) a zero d l = a 0 x (omega arith)
map_all P f (x ∷ xs) a (suc k) d l = map_all P f xs (λ j e m. a (suc j) e (omega arith)) k d (omega arith)

-- what holds of all values holds of the value of each handle
pub all_map : {A B : Type 0} (P : B → Type 0) (f : A → B) (xs : List A) → All P (map f xs) → All (λ x. P (f x)) xs
all_map P f [] a k d l = absurd (omega arith)
all_map P f (x ∷ xs) a zero d l = a 0 (f x) (omega arith)
all_map P f (x ∷ xs) a (suc k) d l = all_map P f xs (λ j e m. a (suc j) e (omega arith)) k d (omega arith)
