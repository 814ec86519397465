-- What each step at the running table tells the seat that makes it.
use Rattle.std.specs.Prelude.{◌≡◌, ℕ, ◌+◌, ◌*◌, ◌/◌, ◌%◌, ◌<◌, ◌≤◌, true, false, if◌then◌else◌, List, [], ◌∷◌, ◌++◌, length, map, Option, Some}
use Rattle.atomic_table.specs.Table.{Me, rest}
use Rattle.epoch_core.specs.declared.event.Event.{Event}
use Rattle.epoch_core.specs.declared.event.Event.TheVariants as event
use Rattle.epoch_core.specs.declared.view.Made.{Made}
use Rattle.epoch_core.specs.declared.view.Own.{Own}
use Rattle.epoch_core.specs.declared.view.ControlOwn.{ControlOwn}
use Rattle.epoch_core.specs.declared.view.Phase.TheVariants.{Idle}
use Rattle.epoch_core.specs.declared.view.Role.{Role}
use Rattle.epoch_core.specs.declared.view.Role.TheVariants.{Spent, Reader, Control, Note}
use Rattle.epoch_core.specs.declared.view.View.{View}
use Rattle.epoch_core.specs.Step.{run, may_pass, looked_own, announced_own, entered_own, left_own, told_own, hit_own, has_pair, version_in_hand}
use Rattle.epoch_core.specs.World.{first_own, opening}
use Rattle.epoch_core.specs.History.{OneMore, history, controls_part}
use Rattle.epoch_core.specs.Counts.{hits_of, tallied_of, from_greatest}
use Rattle.epoch_core.specs.Rule.{Ended, EndedParts, slot_of, AreOnce, ValueFits, booked_of, index_word}
use Rattle.epoch_core.specs.Sound.{IsLatest}

-- what a seat knows, and the slots that it has in hand
abbrev pub Mine : Type 0 → Type 0 → Type 0
Mine Q C = Me (Option C) (View Q)

-- the view of this key and role, with these steps
abbrev pub view : {Q : Type 0} → Q → Role → List Made → View Q
view q role steps = record { key = q; role = role; steps = steps }

module _ {Q C : Type 0} where
  -- a reader's numbers go from o to some p that `next` allows, by one more step, the event e, which finds or stores the
  -- number `n o`
  abbrev pub ReaderGoes : Mine Q C → Mine Q C → (ℕ → Event) → (Own → ℕ) → (ℕ → Own → Own → Type 0) → Type 0
  ReaderGoes m m' e n next =
      (r : ℕ) (o : Own) → m.0.role ≡ Reader r o
      → (p : Own) × (m'.0 ≡ view m.0.key (Reader r p) m'.0.steps) × next r o p × OneMore m.0.steps (e r) (n o) m'.0.steps

  -- a look finds what word 0 holds, a version that is at least what was seen
  abbrev pub looks : Mine Q C → ℕ → Mine Q C → Type 0
  looks m found m' =
      (found < 4294967296) × (m'.1 ≡ m.1) × ReaderGoes m m' (λ r. event.Look r) (λ _. found) (λ r o p. (p ≡ looked_own found o) × (o.seen ≤ found))

  -- an announcement
  abbrev pub announces : Mine Q C → Mine Q C → Type 0
  announces m m' = (m'.1 ≡ m.1) × ReaderGoes m m' (λ r. event.Announce r) (λ o. o.last + 1) (λ r o p. p ≡ announced_own o)

  -- an enter takes the reader's place in the bank of the version that word 0 holds, with a value that is lawful for that
  -- version. Each index that the version names has a word, where G is the greatest index
  abbrev pub enters : (Q → ℕ → C → Type 0) → (Q → ℕ → List (ℕ × ℕ)) → ℕ → ℕ → Mine Q C → ℕ → Mine Q C → Type 0
  enters lawful names K G m found m' =
      (found < 4294967296)
      × ReaderGoes m m' (λ r. event.Enter r) (λ _. found) (λ r o p. (p ≡ entered_own found o) × (o.seen ≤ found) × ((c : C) × (m'.1 ≡ (slot_of (found % K) r, Some c) ∷ m.1) × lawful m.0.key found c))
      × ((i p : ℕ) → has_pair i p (names m.0.key found) ≡ true → (0 < i) × (i ≤ G))

  -- a leave gives the place back
  abbrev pub leaves : Mine Q C → Mine Q C → Type 0
  leaves m m' = (m'.1 ≡ rest m.1) × ReaderGoes m m' (λ r. event.Leave r) (λ _. 0) (λ r o p. p ≡ left_own o)

  -- a hit finds the number that the version in hand names for the index of the word
  abbrev pub hits : (Q → ℕ → List (ℕ × ℕ)) → ℕ → Mine Q C → ℕ → Mine Q C → Type 0
  hits names word m found m' =
      (m'.1 ≡ m.1)
      × ((i : ℕ) → word ≡ index_word i → ReaderGoes m m' (λ r. event.Hit r i) (λ _. found) (λ r o p. (p ≡ hit_own (found / 4294967296) o)
      × ((q : ℕ) → has_pair i q (names m.0.key (version_in_hand o.phase)) ≡ true → found / 4294967296 ≡ q)))

-- what the control knows after it has given the word of the index i to the number p, where it found this word
abbrev pub reassigned_control : ℕ → ℕ → ℕ → ControlOwn → ControlOwn
reassigned_control i p found d =
    record d { done = (i, p) ∷ d.done; booked = (found / 4294967296, found % 4294967296) ∷ d.booked }

-- what the control knows after a scan that found this word
abbrev pub scanned_control : ℕ → ℕ → ControlOwn → ControlOwn
scanned_control K found d = record d { scans = d.scans + 1; found = (d.passed, found); passed = if may_pass K d.version found then d.passed + 1 else d.passed }

-- what the control knows after it has published
abbrev pub published_control : ControlOwn → ControlOwn
published_control d = record d { version = d.version + 1; passed = 0; done = [] }

-- the places of readers 0, 1 and so on in bank b, the last one first, with these values
abbrev pub taken_places : {A : Type 0} → ℕ → List A → List (ℕ × A)
taken_places b [] = []
taken_places b (y ∷ ys) = (slot_of b (length ys), y) ∷ taken_places b ys

-- those of readers m, m + 1 and so on, with these handles
abbrev pub filled_places : {C : Type 0} → ℕ → ℕ → List C → List (ℕ × Option C)
filled_places b m [] = []
filled_places b m (c ∷ cs) = (slot_of b (m + length cs), Some c) ∷ filled_places b m cs

-- P holds of each element
abbrev pub Each : {C : Type 0} → (C → Type 0) → List C → Type 0
Each P [] = Unit {0}
Each P (c ∷ cs) = P c × Each P cs

module _ {Q C : Type 0} where
  -- the control's numbers go from d to `next d`, and `also d` is so
  abbrev pub ControlGoes : Mine Q C → Mine Q C → (ControlOwn → ControlOwn) → (ControlOwn → Type 0) → Type 0
  ControlGoes m m' next also =
      (d : ControlOwn) → m.0.role ≡ Control d → (m'.0 ≡ view m.0.key (Control (next d)) m'.0.steps) × also d

  -- the value stands in the bank of the next version: it is lawful for the latest version of that bank, and nothing where none
  -- stands there yet
  abbrev pub StandsNext : (Q → ℕ → C → Type 0) → ℕ → Q → ℕ → Option C → Type 0
  StandsNext lawful K key version y = (x : Option ℕ) × IsLatest K version ((version + 1) % K) x × ValueFits lawful key x y

  -- a scan takes the reader's place in the next version's bank, with what stands there, where the reader may be passed
  abbrev pub scans : (Q → ℕ → C → Type 0) → ℕ → Mine Q C → ℕ → Mine Q C → Type 0
  scans lawful K m found m' =
      ControlGoes m m' (scanned_control K found) (λ d. (found ≤ d.version + 1)
      × (may_pass K d.version found ≡ true → (y : Option C) × (m'.1 ≡ (slot_of ((d.version + 1) % K) d.passed, y) ∷ m.1) × StandsNext lawful K m.0.key d.version y)
      × (may_pass K d.version found ≡ false → m'.1 ≡ m.1)
      × OneMore m.0.steps (event.Scan d.passed) found m'.0.steps)

  -- a publish gives all places back
  abbrev pub publishes : (Q → ℕ → List (ℕ × ℕ)) → Mine Q C → Mine Q C → Type 0
  publishes names m m' =
      (m'.1 ≡ []) × ControlGoes m m' published_control (λ d. OneMore m.0.steps (event.Publish (names m.0.key (d.version + 1))) (d.version + 1) m'.0.steps)

  -- a reassignment finds the word as it was: its number is one that the control keeps count of, and that count
  -- has room for the word's
  abbrev pub reassigns : ℕ → ℕ → Mine Q C → ℕ → Mine Q C → Type 0
  reassigns word new m found m' =
      (m'.1 ≡ m.1)
      × ((i p : ℕ) → word ≡ index_word i → new ≡ p * 4294967296 → ControlGoes m m' (reassigned_control i p found) (λ d. (found / 4294967296 ≤ d.numbers) × (booked_of (found / 4294967296) d.booked + found % 4294967296 ≤ 1073741824) × OneMore m.0.steps (event.Reassign i p) found m'.0.steps))

-- what the control knows after it has tallied the word of the index i
abbrev pub tallied_control : ℕ → ℕ → ControlOwn → ControlOwn
tallied_control i found d = record d { tallied = (i, found) ∷ d.tallied }

-- the control that has taken all seats in tallies an index word: its number is one that the control keeps count of, and
-- neither its count nor any that the control has booked is above 2 ^ 30
abbrev pub tallies : {Q C : Type 0} → ℕ → Mine Q C → ℕ → Mine Q C → Type 0
tallies word m found m' =
    (m'.1 ≡ m.1)
    × ((i : ℕ) → word ≡ index_word i → ControlGoes m m' (tallied_control i found) (λ d. (found / 4294967296 ≤ d.numbers) × (found % 4294967296 ≤ 1073741824)
    × ((p : ℕ) → booked_of p d.booked ≤ 1073741824) × (m'.0.steps ≡ m.0.steps)))

-- what the control keeps when it makes a reader's seat, and what that begins with
abbrev pub seating : Role → Role
seating (Control d) = Control (record d { opened = d.opened + 1 })
seating role = role

abbrev pub seated : Role → Role
seated (Control d) = Reader d.opened first_own
seated role = Spent

-- what the control keeps when it makes a note, and what that begins with
abbrev pub telling : Role → Role
telling (Control d) = Control (record d { made = d.made + 1 })
telling role = role

abbrev pub noted : Role → Role
noted (Control d) = Note d.made d.version
noted role = Spent

-- a reader that takes a note in
abbrev pub learnt : Role → Role → Role
learnt (Reader r o) (Note k v) = Reader r (told_own v o)
learnt role other = role

-- the control that takes a reader's seat in
abbrev pub ending : Role → Role → List Made → Role
ending (Control d) (Reader r o) steps = Control (record d { ended = (r, o, steps) ∷ d.ended })
ending role other steps = role

-- each reader of the list stands outside, and has seen no version above this
abbrev pub HaveSeen : ℕ → List Ended → Type 0
HaveSeen version [] = Unit {0}
HaveSeen version (p ∷ ps) = (p.1.phase ≡ Idle) × (p.1.seen ≤ version) × HaveSeen version ps

-- the control and the readers of the list have made their steps in one history, which leads from the opening with n readers to
-- this version: the steps of each seat, with what it found, are exactly its part
pub record IsOneHistory (K G n version : ℕ) (steps : List Made) (ended : List Ended) : Type 0 where
  pub events : List Event
  pub leads : (run K G (opening n) events).cur ≡ version
  pub control : steps ≡ controls_part (history K G n events)
  pub readers : EndedParts (history K G n events) ended

-- the control that has taken readers' seats in looks at the version published last: each of them was another's. Where it has
-- taken all in and has tallied each index word, their hits of each number are what it has booked and tallied
abbrev pub closes : {Q C : Type 0} → ℕ → ℕ → Mine Q C → ℕ → Mine Q C → Type 0
closes K G m found m' =
    (m' ≡ m)
    × ((d : ControlOwn) → m.0.role ≡ Control d → (found ≡ d.version) × AreOnce d.readers d.ended × HaveSeen d.version d.ended × IsOneHistory K G d.readers d.version m.0.steps d.ended
    × (d.readers ≤ length d.ended → map (λ c. c.0) d.tallied ≡ from_greatest (G + 1) → (p : ℕ) → hits_of p d.ended ≡ booked_of p d.booked + tallied_of p d.tallied))

-- the view whose role is changed so
abbrev pub in_role : {Q : Type 0} → (Role → Role) → View Q → View Q
in_role f v = record v { role = f v.role }

-- the new seat's view, whose role comes so of the other's
abbrev pub as_new : {Q : Type 0} → (Role → Role) → View Q → View Q
as_new f v = record { key = v.key; role = f v.role; steps = [] }

-- the step by which the control makes a note, and by which a reader takes one in
abbrev pub telling_step : Role → Made
telling_step (Control d) = record { at = 0; event = event.Split; number = d.version }
telling_step _ = record { at = 0; event = event.Split; number = 0 }

abbrev pub learning_step : Role → Role → Made
learning_step (Reader r o) (Note k v) = record { at = 0; event = event.Join r k; number = v }
learning_step _ _ = record { at = 0; event = event.Split; number = 0 }

-- the view of the control when it makes a note, and of a reader when it takes one in
abbrev pub telling_view : {Q : Type 0} → View Q → View Q
telling_view v = record { key = v.key; role = telling v.role; steps = v.steps ++ telling_step v.role ∷ [] }

abbrev pub learnt_view : {Q : Type 0} → View Q → View Q → View Q
learnt_view v u = record { key = v.key; role = learnt v.role u.role; steps = v.steps ++ learning_step v.role u.role ∷ [] }

-- the view of the control when it takes a reader's seat in
abbrev pub ending_view : {Q : Type 0} → View Q → View Q → View Q
ending_view v u = record v { role = ending v.role u.role u.steps }
