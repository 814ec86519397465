-- What contracts see of the seats, and what each seat keeps of the table beside them.
use Rattle.std.specs.Prelude.{◌≡◌, ℕ, ◌+◌, ◌%◌, ◌<◌, ◌≤◌, true, List, [], ◌∷◌, length, slice_index_or, Option, None}
use Rattle.atomic_table.specs.Seated.{TableId}
use Rattle.atomic_table.specs.declared.shared.Seat.{Seat}
use Rattle.epoch_core.specs.declared.view.Made.{Made}
use Rattle.epoch_core.specs.declared.view.Own.{Own}
use Rattle.epoch_core.specs.declared.view.ControlOwn.{ControlOwn}
use Rattle.epoch_core.specs.declared.view.Phase.TheVariants.{Idle, Holding}
use Rattle.epoch_core.specs.declared.view.View.{View}
use Rattle.epoch_core.specs.declared.view.Role.TheVariants.{Control, Note}
use Rattle.epoch_core.specs.World.{first_own}
use Rattle.prefix_width.specs.Limits.{last_index}
use Rattle.epoch_core.specs.Fresh.{NamesFit}
use Rattle.epoch_core.specs.Rule.{IsSized, slot_of, own, control_own, note_number, as_reader, booked_of}
use Rattle.epoch_core.specs.Plays.{taken_places, Each, StandsNext}
use Rattle.epoch_core.specs.Step.{has_pair}

-- a reader's seat: which table it is of, what the table is for, the reader's number, its own numbers, and
-- the steps that it has made
pub record ReaderView (Q : Type 0) : Type 0 where
  pub table : TableId
  pub key : Q
  pub number : ℕ
  pub own : Own
  pub steps : List Made

-- a reader that stands in its epoch: its seat, the version that it has in hand, and the value
pub record StandingView (Q T : Type 0) : Type 0 where
  pub seat : ReaderView Q
  pub version : ℕ
  pub value : T

-- the control's seat: which table it is of, what the table is for, its own numbers, and the steps that it has made
pub record ControlView (Q : Type 0) : Type 0 where
  pub table : TableId
  pub key : Q
  pub own : ControlOwn
  pub steps : List Made

-- a note: which table it is of, what the table is for, its number, and the version that was published when it was made
pub record NoteView (Q : Type 0) : Type 0 where
  pub table : TableId
  pub key : Q
  pub number : ℕ
  pub version : ℕ

-- the seats are those of readers 0 to n - 1 of one table, none of which has done anything
abbrev pub AreFirstSeats : {Q : Type 0} → TableId → Q → ℕ → List (ReaderView Q) → Type 0
AreFirstSeats {Q} z q n seats =
    (length seats ≡ n)
    × ((i : ℕ) (d : ReaderView Q) → i < n → slice_index_or seats i d ≡ record { table = z; key = q; number = i; own = first_own; steps = [] })

-- the list has for each number up to the greatest what is booked of it, and nothing is booked of those above
abbrev pub IsBooked : ControlOwn → List ℕ → Type 0
IsBooked d counts =
    (length counts ≡ d.numbers + 1) × ((p : ℕ) → p ≤ d.numbers → slice_index_or counts p 0 ≡ booked_of p d.booked)
    × ((p : ℕ) → d.numbers < p → booked_of p d.booked ≡ 0)

module _ {Q C : Type 0} where
  abbrev pub reader_view : {R : Type 0} → Seat (Option C) (View Q) → R → ℕ → ReaderView R
  reader_view s q r = record { table = s.table_id; key = q; number = r; own = own s; steps = s.me.0.steps }

  -- the seat is reader r's, with these slots in hand
  pub record IsReadersSeat (K live : ℕ) (s : Seat (Option C) (View Q)) (z : TableId) (q : Q) (r : ℕ) (carried : List (ℕ × Option C)) : Type 0 where
    pub table : s.table_id ≡ z
    pub sized : IsSized K live z
    pub number : r < 64
    pub keyed : s.me.0.key ≡ q
    pub role : s ≡ as_reader s r (own s) carried

  -- the reader is outside, and has seen this version and no later one
  pub record IsOutside (K live : ℕ) (s : Seat (Option C) (View Q)) (z : TableId) (q : Q) (r most : ℕ) : Type 0 where
    pub reader : IsReadersSeat K live s z q r []
    pub idle : (own s).phase ≡ Idle
    pub seen : (own s).seen ≡ most

  -- the reader has this version and this lawful value in hand, its place in the bank is empty, and each index that the version
  -- names has a word
  pub record IsInEpoch (K live : ℕ) (lawful : Q → ℕ → C → Type 0) (names : Q → ℕ → List (ℕ × ℕ)) (s : Seat (Option C) (View Q)) (z : TableId) (q : Q) (r version : ℕ) (c : C) : Type 0 where
    pub reader : IsReadersSeat K live s z q r ((slot_of (version % K) r, None) ∷ [])
    pub holding : (own s).phase ≡ Holding (own s).last version
    pub seen : (own s).seen ≡ version
    pub fair : lawful q version c
    pub within : (i p : ℕ) → has_pair i p (names q version) ≡ true → (0 < i) × (i ≤ last_index K live)

  abbrev pub control_view : {R : Type 0} → Seat (Option C) (View Q) → R → ControlView R
  control_view s q = record { table = s.table_id; key = q; own = control_own s; steps = s.me.0.steps }

  -- the control's seat, which has the places of the readers that are passed, in the bank of the next version, each with what
  -- stands there. Between calls no word is given away or tallied that isn't published or closed with
  pub record IsControlSeat (K live : ℕ) (lawful : Q → ℕ → C → Type 0) (names : Q → ℕ → List (ℕ × ℕ)) (s : Seat (Option C) (View Q)) (z : TableId) (q : Q) (readers version passed : ℕ) (amounts : List ℕ) : Type 0 where
    pub table : s.table_id ≡ z
    pub sized : IsSized K live z
    pub role : s.me.0.role ≡ Control (control_own s)
    pub keyed : s.me.0.key ≡ q
    pub counts : ((control_own s).readers ≡ readers) × (readers ≤ 64) × (passed ≤ readers)
    pub low : version < 4294967296
    pub numbers : ((control_own s).version ≡ version) × ((control_own s).passed ≡ passed)
    pub hands : (ys : List (Option C)) × (s.me.1 ≡ taken_places ((version + 1) % K) ys) × (length ys ≡ passed) × Each (StandsNext lawful K q version) ys
    pub clear : ((control_own s).done ≡ []) × ((control_own s).tallied ≡ [])
    pub books : IsBooked (control_own s) amounts
    pub names_fit : NamesFit (last_index K live) (control_own s).numbers (names q)

  -- the seat of a note of this version
  pub record IsNoteSeat (K live : ℕ) (s : Seat (Option C) (View Q)) (z : TableId) (q : Q) (version : ℕ) : Type 0 where
    pub table : s.table_id ≡ z
    pub sized : IsSized K live z
    pub role : s.me.0.role ≡ Note (note_number s) version
    pub keyed : s.me.0.key ≡ q
    pub bare : s.me.1 ≡ []
