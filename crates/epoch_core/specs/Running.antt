-- What holds of the running table between any two steps, and what each step does to the world that it shows.
use Rattle.std.specs.Prelude.{◌≡◌, ◌≢◌, ℕ, ◌+◌, ◌*◌, ◌/◌, ◌%◌, ◌^◌, ◌<◌, ◌≤◌, true, false, List, [], ◌∷◌, ◌++◌, length, slice_index, slice_set, Option, Some}
use mathlib.Core.Option.{some}
use lib.ListN.{get_elem?}
use Rattle.atomic_table.specs.Table.{State, Allows}
use Rattle.epoch_core.specs.declared.event.Event.{Event}
use Rattle.epoch_core.specs.declared.event.Event.TheVariants as event
use Rattle.epoch_core.specs.declared.view.ControlOwn.{ControlOwn}
use Rattle.epoch_core.specs.declared.view.Own.{Own}
use Rattle.epoch_core.specs.declared.view.Phase.TheVariants.{Idle, Standing, Holding}
use Rattle.epoch_core.specs.declared.view.Role.TheVariants.{Spent, Reader, Control, Note}
use Rattle.epoch_core.specs.declared.view.View.{View}
use Rattle.epoch_core.specs.Follows.{Follows, StepFollows, SplitFollows, JoinFollows}
use Rattle.epoch_core.specs.Plays.{Mine, looks, announces, enters, leaves, scans, publishes, hits, reassigns, tallies, Each, filled_places, seating, seated, telling_view, noted, learnt_view, ending_view, closes, in_role, as_new}
use Rattle.epoch_core.specs.Counts.{hits_of, counts_of}
use Rattle.epoch_core.specs.Sums.{total}
use Rattle.epoch_core.specs.Rule.{booked_of, slot_of, PlaceHas, EpochRule, announcement_word, index_word}
use Rattle.epoch_core.specs.Sound.{IsRecent, Sound}
use Rattle.epoch_core.specs.History.{OneMore, history, readers_part, controls_part}
use Rattle.epoch_core.specs.Step.{are_distinct, each_among, has_index, has_pair, most_hits, step, run}
use Rattle.epoch_core.specs.World.{reader, World, opening}

-- no seat at the table is a reader's, each reader is outside and announces nothing, and none of its places is with it
pub record NoneIsLeft {Q : Type 0} (K : ℕ) (w : World) (views : List (View Q)) : Type 0 where
  pub no_seat : (seat r : ℕ) (v : View Q) (o : Own) → get_elem? views seat ≡ some v → v.role ≢ Reader r o
  pub outside : (r : ℕ) → r < w.readers → (w.reader_at r).own.phase ≡ Idle
  pub silent : (r : ℕ) → r < w.readers → (w.reader_at r).ann ≡ 0
  pub free : (r bank : ℕ) → r < w.readers → bank < K → (w.reader_at r).spot bank ≢ reader

-- each reader below n has a seat at the table, and so has the control
pub record AllSeated {Q : Type 0} (n : ℕ) (views : List (View Q)) : Type 0 where
  pub reader : (r : ℕ) → r < n → (seat : ℕ) × (v : View Q) × (o : Own) × (get_elem? views seat ≡ some v) × (v.role ≡ Reader r o)
  pub control : (seat : ℕ) × (v : View Q) × (d : ControlOwn) × (get_elem? views seat ≡ some v) × (v.role ≡ Control d)

-- the steps that each seat has made, with what it found, are exactly its part of one history, which leads from the opening to
-- the world
pub record IsHistory {Q : Type 0} (K G : ℕ) (w : World) (events : List Event) (views : List (View Q)) : Type 0 where
  pub leads : run K G (opening w.readers) events ≡ w
  pub readers : (seat r : ℕ) (v : View Q) (o : Own) → get_elem? views seat ≡ some v → v.role ≡ Reader r o → v.steps ≡ readers_part r (history K G w.readers events)
  pub control : (seat : ℕ) (v : View Q) (d : ControlOwn) → get_elem? views seat ≡ some v → v.role ≡ Control d → v.steps ≡ controls_part (history K G w.readers events)

-- the table has a seat of each reader and of the control, and goes to another state that the rule allows, in which the seat id
-- alone has another view, v' for v
pub record OneSeatGoes {Q C : Type 0} (K G : ℕ) (lawful : Q → ℕ → C → Type 0) (names : Q → ℕ → List (ℕ × ℕ)) (key : Q) (s s' : State (Option C) (View Q)) (id : ℕ) (v v' : View Q) : Type 0 where
  pub before : EpochRule K G lawful names key s
  pub after : EpochRule K G lawful names key s'
  pub seated : AllSeated before.world.readers s.views
  pub there : get_elem? s.views id ≡ some v
  pub now : s'.views ≡ slice_set s.views id v'

-- each step of a seat takes the shown world to the definitions' step of it
pub record EachStepFollows {Q C : Type 0} (K G : ℕ) (lawful : Q → ℕ → C → Type 0) (names : Q → ℕ → List (ℕ × ℕ)) (key : Q) : Type 0 where
  -- the shown world is sound, and each place at home has a value that is lawful for the version that stands there
  pub shown : (s : State (Option C) (View Q)) (h : EpochRule K G lawful names key s)
      → Sound K G h.world
      × ((r b : ℕ) → r < h.world.readers → b < K → PlaceHas lawful key ((h.world.reader_at r).spot b) ((h.world.reader_at r).held b) (get_elem? s.homes (slot_of b r)))
  -- and what the seats have done is one history
  pub one_history : (s : State (Option C) (View Q)) (h : EpochRule K G lawful names key s) → IsHistory K G h.world h.events s.views
  -- no step is made up: where the control has made one step more, a scan, it found what the reader's word held, whatever the
  -- seat knows and whatever the step was on the table
  pub true_scan : (s s' : State (Option C) (View Q)) (id : ℕ) (v v' : View Q) (d d' : ControlOwn) (r n : ℕ) (go : OneSeatGoes K G lawful names key s s' id v v')
      → v.role ≡ Control d → v'.role ≡ Control d' → r < go.before.world.readers → OneMore v.steps (event.Scan r) n v'.steps → n ≡ slice_index s.words (announcement_word r)
  -- so it is with a reader's look, and with its enter: it found what word 0 held
  pub true_look : (s s' : State (Option C) (View Q)) (id : ℕ) (v v' : View Q) (o o' : Own) (r n : ℕ) → OneSeatGoes K G lawful names key s s' id v v'
      → v.role ≡ Reader r o → v'.role ≡ Reader r o' → OneMore v.steps (event.Look r) n v'.steps → n ≡ slice_index s.words 0
  pub true_enter : (s s' : State (Option C) (View Q)) (id : ℕ) (v v' : View Q) (o o' : Own) (r n : ℕ) → OneSeatGoes K G lawful names key s s' id v v'
      → v.role ≡ Reader r o → v'.role ≡ Reader r o' → OneMore v.steps (event.Enter r) n v'.steps → n ≡ slice_index s.words 0
  -- and with a reader's hit, and the control's reassignment: it found what the word of the index held
  pub true_hit : (s s' : State (Option C) (View Q)) (id : ℕ) (v v' : View Q) (o o' : Own) (r i n : ℕ) → OneSeatGoes K G lawful names key s s' id v v'
      → v.role ≡ Reader r o → v'.role ≡ Reader r o' → OneMore v.steps (event.Hit r i) n v'.steps → n ≡ slice_index s.words (index_word i)
  pub true_reassign : (s s' : State (Option C) (View Q)) (id : ℕ) (v v' : View Q) (d d' : ControlOwn) (i p n : ℕ) → OneSeatGoes K G lawful names key s s' id v v'
      → v.role ≡ Control d → v'.role ≡ Control d' → OneMore v.steps (event.Reassign i p) n v'.steps → n ≡ slice_index s.words (index_word i)
  -- so a step that tells the control of a scan that found `g k`, where the word holds k, may be made only where `g k` is k
  pub no_feigned_scan : (slots id : ℕ) (g : ℕ → ℕ) (me : Mine Q C) (d : ControlOwn) → me.0.role ≡ Control d → d.passed < d.readers
      → Allows (EpochRule K G lawful names key) slots id me (announcement_word d.passed) (λ k. k) (λ k m'. scans lawful K me (g k) m')
      → (s : State (Option C) (View Q)) (h : EpochRule K G lawful names key s) → AllSeated h.world.readers s.views → length s.homes ≡ slots
      → get_elem? s.views id ≡ some me.0 → slice_index s.words (announcement_word d.passed) < 18446744073709551616
      → g (slice_index s.words (announcement_word d.passed)) ≡ slice_index s.words (announcement_word d.passed)
  -- so it is with a step that tells a reader of a look, or of an enter, that found `g k`
  pub no_feigned_look : (slots id r : ℕ) (g : ℕ → ℕ) (me : Mine Q C) (o : Own) → me.0.role ≡ Reader r o
      → Allows (EpochRule K G lawful names key) slots id me 0 (λ k. k) (λ k m'. looks me (g k) m')
      → (s : State (Option C) (View Q)) (h : EpochRule K G lawful names key s) → AllSeated h.world.readers s.views → length s.homes ≡ slots
      → get_elem? s.views id ≡ some me.0 → slice_index s.words 0 < 18446744073709551616 → g (slice_index s.words 0) ≡ slice_index s.words 0
  pub no_feigned_enter : (slots id r : ℕ) (g : ℕ → ℕ) (me : Mine Q C) (o : Own) → me.0.role ≡ Reader r o
      → Allows (EpochRule K G lawful names key) slots id me 0 (λ k. k) (λ k m'. enters lawful names K G me (g k) m')
      → (s : State (Option C) (View Q)) (h : EpochRule K G lawful names key s) → AllSeated h.world.readers s.views → length s.homes ≡ slots
      → get_elem? s.views id ≡ some me.0 → slice_index s.words 0 < 18446744073709551616 → g (slice_index s.words 0) ≡ slice_index s.words 0
  -- and with a step that tells a reader of a hit, or the control of a reassignment, that found `g k`, whatever it stores
  pub no_feigned_hit : (slots id r i : ℕ) (f g : ℕ → ℕ) (me : Mine Q C) (o : Own) → me.0.role ≡ Reader r o
      → Allows (EpochRule K G lawful names key) slots id me (index_word i) f (λ k m'. hits names (index_word i) me (g k) m')
      → (s : State (Option C) (View Q)) (h : EpochRule K G lawful names key s) → AllSeated h.world.readers s.views → length s.homes ≡ slots
      → get_elem? s.views id ≡ some me.0 → slice_index s.words (index_word i) < 18446744073709551616
      → g (slice_index s.words (index_word i)) ≡ slice_index s.words (index_word i)
  pub no_feigned_reassign : (slots id i p : ℕ) (f g : ℕ → ℕ) (me : Mine Q C) (d : ControlOwn) → me.0.role ≡ Control d
      → Allows (EpochRule K G lawful names key) slots id me (index_word i) f (λ k m'. reassigns (index_word i) (p * 4294967296) me (g k) m')
      → (s : State (Option C) (View Q)) (h : EpochRule K G lawful names key s) → AllSeated h.world.readers s.views → length s.homes ≡ slots
      → get_elem? s.views id ≡ some me.0 → slice_index s.words (index_word i) < 18446744073709551616
      → g (slice_index s.words (index_word i)) ≡ slice_index s.words (index_word i)
  -- a reader that is outside loads word 0: it looks
  pub look : (slots id r : ℕ) (me : Mine Q C) (o : Own) → me.0.role ≡ Reader r o → o.phase ≡ Idle
      → Follows K G lawful names key slots id me 0 (λ n. n) (looks me) (event.Look r)
  -- it stores one more than the version that it looked at last in its word: it announces
  pub announce : (slots id r : ℕ) (me : Mine Q C) (o : Own) → me.0.role ≡ Reader r o → o.phase ≡ Idle
      → Follows K G lawful names key slots id me (announcement_word r) (λ _. o.last + 1) (λ _ m'. announces me m') (event.Announce r)
  -- a reader that has announced loads word 0 and takes its place: it enters
  pub enter : (slots id r a : ℕ) (me : Mine Q C) (o : Own) → me.0.role ≡ Reader r o → o.phase ≡ Standing a
      → Follows K G lawful names key slots id me 0 (λ n. n) (enters lawful names K G me) (event.Enter r)
  -- a reader that has put a lawful value back stores 0 in its word and gives its place back: it leaves
  pub leave : (slots id r a v : ℕ) (me : Mine Q C) (o : Own) (c : C) (cs : List (ℕ × Option C)) → me.0.role ≡ Reader r o → o.phase ≡ Holding a v
      → me.1 ≡ (slot_of (v % K) r, Some c) ∷ cs → lawful me.0.key v c
      → Follows K G lawful names key slots id me (announcement_word r) (λ _. 0) (λ _ m'. leaves me m') (event.Leave r)
  -- the control loads the word of the first reader that isn't passed: it scans
  pub scan : (slots id : ℕ) (me : Mine Q C) (d : ControlOwn) → me.0.role ≡ Control d → d.passed < d.readers
      → Follows K G lawful names key slots id me (announcement_word d.passed) (λ n. n) (scans lawful K me) (event.Scan d.passed)
  -- once all readers are passed and the control has put lawful values in all places in hand, it stores the next version in
  -- word 0 and gives the places back: it publishes
  pub publish : (slots id : ℕ) (me : Mine Q C) (d : ControlOwn) (cs : List C) → me.0.role ≡ Control d → d.passed ≡ d.readers
      → me.1 ≡ filled_places ((d.version + 1) % K) 0 cs → length cs ≡ d.readers → Each (lawful me.0.key (d.version + 1)) cs → d.version + 1 < 4294967296
      → are_distinct (names me.0.key (d.version + 1)) ≡ true → each_among (names me.0.key (d.version + 1)) (names me.0.key d.version) d.done ≡ true
      → Follows K G lawful names key slots id me 0 (λ _. d.version + 1) (λ _ m'. publishes names me m') (event.Publish (names me.0.key (d.version + 1)))
  -- a reader that has a version in hand adds 1 to the word of an index that the version names: it makes a hit
  pub hit : (slots id r i a v : ℕ) (me : Mine Q C) (o : Own) → me.0.role ≡ Reader r o → o.phase ≡ Holding a v → has_index i (names me.0.key v) ≡ true → length o.hits < most_hits
      → Follows K G lawful names key slots id me (index_word i) (λ n. (n + 1) % 2 ^ 64) (hits names (index_word i) me) (event.Hit r i)
  -- once all readers are passed, the control swaps a number into the word of an index that no recent version names: it
  -- reassigns
  pub reassign : (slots id i p : ℕ) (me : Mine Q C) (d : ControlOwn) → me.0.role ≡ Control d → d.passed ≡ d.readers → 0 < i → i ≤ G → p ≤ d.numbers
      → ((x : ℕ) → IsRecent K d.version x → has_index i (names me.0.key x) ≡ false) → has_index i d.done ≡ false → d.tallied ≡ []
      → Follows K G lawful names key slots id me (index_word i) (λ _. p * 4294967296) (reassigns (index_word i) (p * 4294967296) me) (event.Reassign i p)
  -- the control makes a note: it splits
  pub tell : (id : ℕ) (v : View Q) (d : ControlOwn) → v.role ≡ Control d
      → SplitFollows K G lawful names key id v (telling_view v) (as_new noted v) (λ w. step K G w event.Split) (λ es. es ++ event.Split ∷ [])
  -- a reader that is outside takes a note in: it joins
  pub learn : (id r other k version : ℕ) (v u spent : View Q) (o : Own) → v.role ≡ Reader r o → o.phase ≡ Idle → u.role ≡ Note k version → spent.role ≡ Spent
      → JoinFollows K G lawful names key id v other u (learnt_view v u) spent (λ w. step K G w (event.Join r k)) (λ es. es ++ event.Join r k ∷ [])
  -- the control makes the next reader's seat: the world stays
  pub make_seat : (id : ℕ) (v : View Q) (d : ControlOwn) → v.role ≡ Control d → d.opened < d.readers
      → SplitFollows K G lawful names key id v (in_role seating v) (as_new seated v) (λ w. w) (λ es. es)
  -- the control takes a reader's seat in: the world stays
  pub end_seat : (id r other : ℕ) (v u spent : View Q) (d : ControlOwn) (o : Own) → v.role ≡ Control d → u.role ≡ Reader r o → o.phase ≡ Idle → spent.role ≡ Spent
      → JoinFollows K G lawful names key id v other u (ending_view v u) spent (λ w. w) (λ es. es)
  -- the control, which has taken seats in, loads word 0: the world stays
  pub close : (slots id : ℕ) (me : Mine Q C) (d : ControlOwn) → me.0.role ≡ Control d
      → StepFollows K G lawful names key slots id me 0 (λ n. n) (closes K G me) (λ w. w) (λ es. es)
  -- once the control has taken in as many seats as there are readers, none of them is left
  pub none_left : (s : State (Option C) (View Q)) (h : EpochRule K G lawful names key s) (id : ℕ) (v : View Q) (d : ControlOwn)
      → get_elem? s.views id ≡ some v → v.role ≡ Control d → d.readers ≤ length d.ended
      → NoneIsLeft K h.world s.views
  -- and then, for each number, the hits of the readers that it has taken in are those that it has booked and those that the
  -- index words hold
  pub all_counted : (s : State (Option C) (View Q)) (h : EpochRule K G lawful names key s) (id : ℕ) (v : View Q) (d : ControlOwn)
      → get_elem? s.views id ≡ some v → v.role ≡ Control d → d.readers ≤ length d.ended
      → (p : ℕ) → hits_of p d.ended ≡ booked_of p d.booked + total (λ i. counts_of p (slice_index s.words (index_word i))) (G + 1)
  -- and it loads index words: the world stays, and a word that it has tallied stands as it was found
  pub tally : (slots id i : ℕ) (me : Mine Q C) (d : ControlOwn) → me.0.role ≡ Control d → d.readers ≤ length d.ended → i ≤ G
      → StepFollows K G lawful names key slots id me (index_word i) (λ n. n) (tallies (index_word i) me) (λ w. w) (λ es. es)
  -- what it has tallied of a word is what the word holds
  pub true_tally : (s : State (Option C) (View Q)) (h : EpochRule K G lawful names key s) (id : ℕ) (v : View Q) (d : ControlOwn)
      → get_elem? s.views id ≡ some v → v.role ≡ Control d
      → (i n : ℕ) → i ≤ G → has_pair i n d.tallied ≡ true → n ≡ slice_index s.words (index_word i)
