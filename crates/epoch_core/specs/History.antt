-- The history of a running table: the steps of a list of events, in order, and each seat's part of them.
use Rattle.std.specs.Prelude.{◌≡◌, ℕ, zero, suc, ◌+◌, Bool, true, false, ◌==◌, if◌then◌else◌, List, [], ◌∷◌, ◌++◌, filter, unwrap_or}
use Rattle.epoch_core.specs.World.{World, opening, word_value}
use Rattle.epoch_core.specs.Fresh.{latest_first}
use Rattle.epoch_core.specs.Step.{enabled, step, may_pass}
use Rattle.epoch_core.specs.declared.event.Event.{Event}
use Rattle.epoch_core.specs.declared.event.Event.TheVariants.{Look, Announce, Enter, Leave, Scan, Publish, Split, Join, Hit, Reassign}
use Rattle.epoch_core.specs.declared.view.Made.{Made}

-- the number that a step finds in its word, or stores there; the version at a note. A hit and a reassignment find a word
abbrev pub number_of : World → Event → ℕ
number_of w (Look r) = w.cur
number_of w (Announce r) = (w.reader_at r).own.last + 1
number_of w (Enter r) = w.cur
number_of w (Leave r) = 0
number_of w (Scan r) = (w.reader_at r).ann
number_of w (Publish m) = w.cur + 1
number_of w Split = w.cur
number_of w (Join r k) = unwrap_or (w.notes k) 0
number_of w (Hit r i) = word_value (w.word_at i)
number_of w (Reassign i p) = word_value (w.word_at i)

-- how many steps on words there are after an event, where there were n before it
abbrev pub counted : ℕ → Event → ℕ
counted n (Look r) = n + 1
counted n (Announce r) = n + 1
counted n (Enter r) = n + 1
counted n (Leave r) = n + 1
counted n (Scan r) = n + 1
counted n (Publish m) = n + 1
counted n Split = n
counted n (Join r k) = n
counted n (Hit r i) = n + 1
counted n (Reassign i p) = n + 1

-- which of the steps on words an event is, counted from 1; 0 where it is on no word
abbrev pub place_of : ℕ → Event → ℕ
place_of n (Look r) = n + 1
place_of n (Announce r) = n + 1
place_of n (Enter r) = n + 1
place_of n (Leave r) = n + 1
place_of n (Scan r) = n + 1
place_of n (Publish m) = n + 1
place_of n Split = 0
place_of n (Join r k) = 0
place_of n (Hit r i) = n + 1
place_of n (Reassign i p) = n + 1

-- the step that an event is
abbrev pub made_of : ℕ → World → Event → Made
made_of n w e = record { at = place_of n e; event = e; number = number_of w e }

-- the steps that a list of events makes of a world, where n steps on words were made before; an event that can't be made
-- makes none
abbrev pub made : ℕ → ℕ → ℕ → World → List Event → List Made
made K G n w [] = []
made K G n w (e ∷ es) =
    if enabled K G w e then made_of n w e ∷ made K G (counted n e) (step K G w e) es else made K G n (step K G w e) es

-- the steps that a list of events makes of the world in which n readers begin
abbrev pub history : ℕ → ℕ → ℕ → List Event → List Made
history K G n events = made K G 0 (opening n) events

-- whether it is the reader's seat that makes the step
abbrev pub is_of_reader : ℕ → Event → Bool
is_of_reader r (Look q) = q == r
is_of_reader r (Announce q) = q == r
is_of_reader r (Enter q) = q == r
is_of_reader r (Leave q) = q == r
is_of_reader r (Scan q) = false
is_of_reader r (Publish m) = false
is_of_reader r Split = false
is_of_reader r (Join q k) = q == r
is_of_reader r (Hit q i) = q == r
is_of_reader r (Reassign i p) = false

-- whether it is the control's seat that makes the step
abbrev pub is_of_control : Event → Bool
is_of_control (Look r) = false
is_of_control (Announce r) = false
is_of_control (Enter r) = false
is_of_control (Leave r) = false
is_of_control (Scan r) = true
is_of_control (Publish m) = true
is_of_control Split = true
is_of_control (Join r k) = false
is_of_control (Hit r i) = false
is_of_control (Reassign i p) = true

-- the part of the reader, and the part of the control
abbrev pub readers_part : ℕ → List Made → List Made
readers_part r ms = filter (λ m. is_of_reader r m.event) ms

abbrev pub controls_part : List Made → List Made
controls_part ms = filter (λ m. is_of_control m.event) ms

-- after these steps the seat made one more, on a word, at some place of the table's steps on words: the event e, which
-- found or stored the number n
abbrev pub OneMore : List Made → Event → ℕ → List Made → Type 0
OneMore before e n after = (t : ℕ) × (after ≡ before ++ record { at = t; event = e; number = n } ∷ [])

-- after these steps the reader looked, announced what it had found, and entered
abbrev pub EnterSteps : ℕ → List Made → ℕ → ℕ → List Made → Type 0
EnterSteps r before found version after =
    (a b : List Made) × OneMore before (Look r) found a × OneMore a (Announce r) (found + 1) b × OneMore b (Enter r) version after

-- after these steps the control scanned n readers from this one on, in order, and could pass each. The reader of its last
-- scan, and what that found, goes from `was` to `found`
abbrev pub PassSteps : ℕ → ℕ → ℕ → List Made → ℕ × ℕ → ℕ → List Made → ℕ × ℕ → Type 0
PassSteps K version first before was zero after found = (after ≡ before) × (found ≡ was)
PassSteps K version first before was (suc n) after found =
    (number : ℕ) × (mid : List Made) × (earlier : ℕ × ℕ) × PassSteps K version first before was n mid earlier
    × (may_pass K version number ≡ true) × OneMore mid (Scan (first + n)) number after × (found ≡ (first + n, number))

-- after these steps the control scanned the readers from the first to before the last, in order, and could pass each; then it
-- made the step e, which found or stored the number n. The reader of the last of those scans, and what that found, went from
-- `was` to `found`
abbrev pub PassedThen : ℕ → ℕ → ℕ → ℕ → List Made → ℕ × ℕ → Event → ℕ → List Made → ℕ × ℕ → Type 0
PassedThen K version first last before was e n after found =
    (k : ℕ) × (mid : List Made) × (first + k ≡ last) × PassSteps K version first before was k mid found × OneMore mid e n after

-- after these steps the control gave the words of these pairs to their numbers, in order, the latest pair first
abbrev pub ReassignSteps : List Made → List (ℕ × ℕ) → List Made → Type 0
ReassignSteps before [] after = after ≡ before
ReassignSteps before (c ∷ done) after =
    (found : ℕ) × (mid : List Made) × ReassignSteps before done mid × OneMore mid (Reassign c.0 c.1) found after

-- after these steps the control scanned the readers from the first to before the last, in order, and could pass each; then it
-- gave the words of the fresh pairs to their numbers, in order; then it published the next version, with these pairs
abbrev pub PublishedThen : ℕ → ℕ → ℕ → ℕ → List Made → ℕ × ℕ → List (ℕ × ℕ) → List (ℕ × ℕ) → List Made → ℕ × ℕ → Type 0
PublishedThen K version first last before was fresh pairs after found =
    (k : ℕ) × (a b : List Made) × (first + k ≡ last) × PassSteps K version first before was k a found
    × ReassignSteps a (latest_first fresh []) b × OneMore b (Publish pairs) (version + 1) after
