-- The rule of the running table: the world that its words, its seats' views and the slots that are out show is sound, and
-- each place at home has a lawful value. C is a handle of a value, Q a key, and K the number of banks. The place of
-- reader r in bank b is the slot 8 (64 b + r).
use Rattle.std.specs.Prelude.{◌≡◌, ℕ, ◌+◌, ◌*◌, ◌<◌, ◌≤◌, Bool, true, false, ◌||◌, ◌==◌, nat_lt, if◌then◌else◌, List, [], ◌∷◌, length, slice_index, Option, Some, None}
use mathlib.Core.Option.{some}
use mathlib.Core.Option as maybe
use lib.ListN.{get_elem?}
use Rattle.atomic_table.specs.Table.{State}
use Rattle.atomic_table.specs.Seated.{TableId}
use Rattle.atomic_table.specs.declared.shared.Seat.{Seat}
use Rattle.prefix_width.specs.Limits.{AreBanks, AreTargets, last_index}
use Rattle.epoch_core.specs.declared.event.Event.{Event}
use Rattle.epoch_core.specs.declared.view.Made.{Made}
use Rattle.epoch_core.specs.declared.view.Own.{Own}
use Rattle.epoch_core.specs.declared.view.ControlOwn.{ControlOwn}
use Rattle.epoch_core.specs.declared.view.Phase.TheVariants.{Idle}
use Rattle.epoch_core.specs.declared.view.Role.{Role}
use Rattle.epoch_core.specs.declared.view.Role.TheVariants.{Spent, Reader, Control, Note}
use Rattle.epoch_core.specs.declared.view.View.{View}
use Rattle.epoch_core.specs.History.{history, readers_part, controls_part}
use Rattle.epoch_core.specs.Sound.{Sound}
use Rattle.epoch_core.specs.Step.{run}
use Rattle.epoch_core.specs.World.{Word, World, Spot, home, reader, control, first_own, opening, word_value}

-- the slot of reader r in bank b. What two readers write stands 8 slots or 16 words apart, so that no cache line is written by
-- two readers
abbrev pub slot_of : ℕ → ℕ → ℕ
slot_of b r = 8 * (64 * b + r)

-- the word that reader r announces in, and the word of an index
abbrev pub announcement_word : ℕ → ℕ
announcement_word r = 16 * (1 + r)

abbrev pub index_word : ℕ → ℕ
index_word i = 1040 + i

-- the hits that a list of numbers and counts has of p
abbrev pub booked_of : ℕ → List (ℕ × ℕ) → ℕ
booked_of p [] = 0
booked_of p (c ∷ cs) = if c.0 == p then booked_of p cs + c.1 else booked_of p cs

-- whose the seats are
pub record Owners : Type 0 where
  -- the seat of each reader, and of each note
  pub reader_seat : ℕ → ℕ
  pub note_seat : ℕ → ℕ
  -- the control's seat
  pub control_seat : ℕ
  -- how many readers' seats were made: those of the readers below it
  pub opened : ℕ
  -- whether the control has taken a reader's seat in
  pub ended : ℕ → Bool

-- a reader whose seat the control has taken in, with its numbers and its steps
abbrev pub Ended : Type 0
Ended = ℕ × Own × List Made

-- whether the reader is one of the list
abbrev pub is_among : ℕ → List Ended → Bool
is_among r [] = false
is_among r (p ∷ ps) = (p.0 == r) || is_among r ps

-- each reader of the list is below n, and is there once
abbrev pub AreOnce : ℕ → List Ended → Type 0
AreOnce n [] = Unit {0}
AreOnce n (p ∷ ps) = (p.0 < n) × (is_among p.0 ps ≡ false) × AreOnce n ps

-- each reader of the list has ended and stands outside, with these numbers
abbrev pub EndedFit : World → Owners → List Ended → Type 0
EndedFit w owners [] = Unit {0}
EndedFit w owners (p ∷ ps) =
    (owners.ended p.0 ≡ true) × ((w.reader_at p.0).own ≡ p.1) × (p.1.phase ≡ Idle) × EndedFit w owners ps

-- each word of the list stands as it was found, and as many readers have ended as there are
abbrev pub TallyFits : (ℕ → Word) → ℕ → ℕ → List (ℕ × ℕ) → Type 0
TallyFits word_at readers ended [] = Unit {0}
TallyFits word_at readers ended (c ∷ cs) =
    (readers ≤ ended) × (word_value (word_at c.0) ≡ c.1) × TallyFits word_at readers ended cs

-- what the control knows of itself is so in the world
pub record ControlFits (w : World) (owners : Owners) (seat : ℕ) (d : ControlOwn) : Type 0 where
  pub its_seat : seat ≡ owners.control_seat
  pub readers_are : d.readers ≡ w.readers
  pub version_is : d.version ≡ w.cur
  -- it has passed the readers below a number
  pub passed_are : (r : ℕ) → r < w.readers → (w.reader_at r).passed ≡ nat_lt r d.passed
  pub scans_are : d.scans ≡ w.scans
  pub found_is : d.found ≡ w.found
  pub made_are : d.made ≡ w.made
  pub opened_are : d.opened ≡ owners.opened
  -- a reader whose seat isn't made yet has done nothing
  pub unopened : (r : ℕ) → owners.opened ≤ r → ((w.reader_at r).own ≡ first_own) × (owners.ended r ≡ false)
  -- the readers whose seats it has taken in, once each
  pub ended_fit : EndedFit w owners d.ended
  pub once : AreOnce w.readers d.ended
  -- the pairs that are done, the counts that are booked, and a bound of all numbers that words carry
  pub done_is : d.done ≡ w.done
  pub booked_are : (p : ℕ) → w.booked p ≡ booked_of p d.booked
  pub numbers_low : (i : ℕ) → (w.word_at i).number ≤ d.numbers
  -- and the words that it has tallied
  pub tally_fits : TallyFits w.word_at d.readers (length d.ended) d.tallied

module _ (w : World) (owners : Owners) (seat : ℕ) where
  -- what a seat's role says is so in the world: a reader knows its own numbers, the control its own, and a note its version
  abbrev pub RoleFits : Role → Type 0
  RoleFits Spent = Unit {0}
  RoleFits (Reader r o) =
      (r < w.readers) × (owners.reader_seat r ≡ seat) × ((w.reader_at r).own ≡ o) × (r < owners.opened) × (owners.ended r ≡ false)
  RoleFits (Control d) = ControlFits w owners seat d
  RoleFits (Note k v) = (k < w.made) × (w.notes k ≡ Some v) × (owners.note_seat k ≡ seat)

-- the steps of each reader of the list are its part of these
abbrev pub EndedParts : List Made → List Ended → Type 0
EndedParts ms [] = Unit {0}
EndedParts ms (p ∷ ps) = (p.2 ≡ readers_part p.0 ms) × EndedParts ms ps

-- the steps that a seat knows are its part of these; a reader whose seat isn't made yet has made none
abbrev pub PartFits : List Made → Role → List Made → Type 0
PartFits ms Spent steps = Unit {0}
PartFits ms (Reader r o) steps = steps ≡ readers_part r ms
PartFits ms (Control d) steps =
    (steps ≡ controls_part ms) × ((r : ℕ) → d.opened ≤ r → readers_part r ms ≡ []) × EndedParts ms d.ended
PartFits ms (Note k v) steps = Unit {0}

-- this is so of each seat but a spent one
abbrev pub KeyFits : Role → Type 0 → Type 0
KeyFits Spent P = Unit {0}
KeyFits (Reader r o) P = P
KeyFits (Control d) P = P
KeyFits (Note k v) P = P

module _ {Q C : Type 0} (lawful : Q → ℕ → C → Type 0) (key : Q) where
  -- the value at home is lawful for the version that stands in its bank, and there is none where none stands
  abbrev pub ValueFits : Option ℕ → Option C → Type 0
  ValueFits None x = x ≡ None
  ValueFits (Some v) x = (c : C) × (x ≡ Some c) × lawful key v c

  -- a place at home has a value that fits, and one that is with a seat is out
  abbrev pub PlaceHas : Spot → Option ℕ → maybe.Option (maybe.Option (Option C)) → Type 0
  PlaceHas home v x = (y : Option C) × (x ≡ some (some y)) × ValueFits v y
  PlaceHas reader v x = x ≡ some maybe.none
  PlaceHas control v x = x ≡ some maybe.none

-- the table shows the sound world to which some list of events leads from the opening: the words CUR and ANN and the index
-- words are in its words, the numbers, phases and steps in its seats' views, and the places in its slots. G is the greatest
-- index, and a version's pairs are those that `names` gives
pub record EpochRule {Q C : Type 0} (K G : ℕ) (lawful : Q → ℕ → C → Type 0) (names : Q → ℕ → List (ℕ × ℕ)) (key : Q) (s : State (Option C) (View Q)) : Type 0 where
  pub world : World
  pub owners : Owners
  pub events : List Event
  pub ran : run K G (opening world.readers) events ≡ world
  pub sound : Sound K G world
  pub few : world.readers ≤ 64
  pub low : world.cur < 4294967296
  pub wide : length s.words ≡ 1040 + (G + 1)
  pub deep : length s.homes ≡ 512 * K
  pub cur_is : slice_index s.words 0 ≡ world.cur
  pub ann_is : (r : ℕ) → r < world.readers → slice_index s.words (announcement_word r) ≡ (world.reader_at r).ann
  pub word_is : (i : ℕ) → i ≤ G → slice_index s.words (index_word i) ≡ word_value (world.word_at i)
  pub names_are : (v : ℕ) → v ≤ world.cur → world.pairs_at v ≡ names key v
  pub each_view : (j : ℕ) (v : View Q) → get_elem? s.views j ≡ some v → KeyFits v.role (v.key ≡ key) × RoleFits world owners j v.role × PartFits (history K G world.readers events) v.role v.steps
  pub each_place : (r b : ℕ) → r < world.readers → b < K → PlaceHas lawful key ((world.reader_at r).spot b) ((world.reader_at r).held b) (get_elem? s.homes (slot_of b r))

-- K banks and so many live targets are within the limits, and the table has 1,040 words and one for each index, and a place for
-- each of 64 readers in each bank, 8 slots apart
abbrev pub IsSized : ℕ → ℕ → TableId → Type 0
IsSized K live z =
    (AreBanks K × AreTargets live) × (z.words ≡ 1040 + (last_index K live + 1)) × (z.slots ≡ 512 * K)

-- the numbers of a reader's seat, and those of a new reader for any other seat
abbrev pub own_of : Role → Own
own_of (Reader r o) = o
own_of _ = first_own

-- the control's numbers before it has done anything
abbrev pub first_control : ℕ → ℕ → ControlOwn
first_control n numbers = record { readers = n; version = 0; passed = 0; scans = 0; found = (0, 0); made = 0; opened = 0; ended = []; done = []; booked = []; tallied = []; numbers = numbers }

-- the numbers of the control's seat, and those of a new control for any other seat
abbrev pub control_own_of : Role → ControlOwn
control_own_of (Control d) = d
control_own_of _ = first_control 0 0

-- the number of a note, and 0 for any other role
abbrev pub note_number_of : Role → ℕ
note_number_of (Note k v) = k
note_number_of _ = 0

module _ {Q C : Type 0} where
  -- the number of a note's seat, and 0 for any other seat
  abbrev pub note_number : Seat (Option C) (View Q) → ℕ
  note_number s = note_number_of s.me.0.role

  -- what the control's seat knows of itself, and what a reader's does
  abbrev pub control_own : Seat (Option C) (View Q) → ControlOwn
  control_own s = control_own_of s.me.0.role

  abbrev pub own : Seat (Option C) (View Q) → Own
  own s = own_of s.me.0.role

  -- the seat as reader r with these numbers, and with these slots in hand
  abbrev pub as_reader : Seat (Option C) (View Q) → ℕ → Own → List (ℕ × Option C) → Seat (Option C) (View Q)
  as_reader s r o carried = record s { me = (record { key = s.me.0.key; role = Reader r o; steps = s.me.0.steps }, carried) }

-- lawful for the key that is there
abbrev pub at_key : {Q C : Type 0} → (Q → ℕ → C → Type 0) → Option Q → ℕ → C → Type 0
at_key lawful None v c = ⊥
at_key lawful (Some q) v c = lawful q v c

-- the names of the key that is there
abbrev pub names_at_key : {Q : Type 0} → (Q → ℕ → List (ℕ × ℕ)) → Option Q → ℕ → List (ℕ × ℕ)
names_at_key names None v = []
names_at_key names (Some q) v = names q v

-- the control's view before any reader's seat is made
abbrev pub opening_view : {Q : Type 0} → Q → ℕ → ℕ → View Q
opening_view q n numbers = record { key = q; role = Control (first_control n numbers); steps = [] }

-- the control's view once k readers' seats are made
abbrev pub opened_view : {Q : Type 0} → Q → ℕ → ℕ → ℕ → View Q
opened_view q n numbers k = record { key = q; role = Control (record (first_control n numbers) { opened = k }); steps = [] }
