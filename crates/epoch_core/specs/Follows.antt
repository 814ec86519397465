-- A step of a seat, with the event of the definitions that it is.
use Rattle.std.specs.Prelude.{◌≡◌, ℕ, ◌<◌, [], ◌∷◌, ◌++◌, length, slice_index, slice_set, Option, List}
use mathlib.Core.Option.{some}
use lib.ListN.{get_elem?}
use Rattle.atomic_table.specs.Table.{State, Act, Valid, stepped, carried_after}
use Rattle.epoch_core.specs.declared.event.Event.{Event}
use Rattle.epoch_core.specs.declared.view.View.{View}
use Rattle.epoch_core.specs.Step.{step}
use Rattle.epoch_core.specs.Rule.{EpochRule}
use Rattle.epoch_core.specs.Plays.{Mine}
use Rattle.epoch_core.specs.World.{World}

-- whatever the table is when the word i becomes f of what it was, the seat can step so that `then` holds, and the shown
-- world w goes to `goes w` and the history es to `on es`
abbrev pub StepFollows : {Q C : Type 0} → ℕ → ℕ → (Q → ℕ → C → Type 0) → (Q → ℕ → List (ℕ × ℕ)) → Q → ℕ → ℕ → Mine Q C → ℕ → (ℕ → ℕ) → (ℕ → Mine Q C → Type 0) → (World → World) → (List Event → List Event) → Type 0
StepFollows {Q} {C} K G lawful names key slots id me i f then goes on =
    (s : State (Option C) (View Q)) (h : EpochRule K G lawful names key s)
    → length s.homes ≡ slots → get_elem? s.views id ≡ some me.0 → slice_index s.words i < 18446744073709551616
    → (v : View Q) × (a : Act (Option C)) × Valid s.homes me.1 a
    × ((h' : EpochRule K G lawful names key (stepped s i (f (slice_index s.words i)) id me.1 v a)) × (h'.world ≡ goes h.world) × (h'.events ≡ on h.events))
    × then (slice_index s.words i) (v, carried_after me.1 a)

-- the same, where the event e takes the shown world, and is put behind the history
abbrev pub Follows : {Q C : Type 0} → ℕ → ℕ → (Q → ℕ → C → Type 0) → (Q → ℕ → List (ℕ × ℕ)) → Q → ℕ → ℕ → Mine Q C → ℕ → (ℕ → ℕ) → (ℕ → Mine Q C → Type 0) → Event → Type 0
Follows K G lawful names key slots id me i f then e = StepFollows K G lawful names key slots id me i f then (λ w. step K G w e) (λ es. es ++ e ∷ [])

-- whatever the table is, the seat id of the view v can be cut in two views, the shown world w goes to `goes w`, and the history es to `on es`
abbrev pub SplitFollows : {Q C : Type 0} → ℕ → ℕ → (Q → ℕ → C → Type 0) → (Q → ℕ → List (ℕ × ℕ)) → Q → ℕ → View Q → View Q → View Q → (World → World) → (List Event → List Event) → Type 0
SplitFollows {Q} {C} K G lawful names key id v left right goes on =
    (s : State (Option C) (View Q)) (h : EpochRule K G lawful names key s) → get_elem? s.views id ≡ some v
    → (h' : EpochRule K G lawful names key record { words = s.words; homes = s.homes; views = slice_set s.views id left ++ right ∷ [] })
    × (h'.world ≡ goes h.world) × (h'.events ≡ on h.events)

-- whatever the table is, the seat id of the view v can take in the seat `other` of the view u, the shown world w goes to
-- `goes w`, and the history es to `on es`
abbrev pub JoinFollows : {Q C : Type 0} → ℕ → ℕ → (Q → ℕ → C → Type 0) → (Q → ℕ → List (ℕ × ℕ)) → Q → ℕ → View Q → ℕ → View Q → View Q → View Q → (World → World) → (List Event → List Event) → Type 0
JoinFollows {Q} {C} K G lawful names key id v other u both spent goes on =
    (s : State (Option C) (View Q)) (h : EpochRule K G lawful names key s)
    → get_elem? s.views id ≡ some v → ¬ (other ≡ id) → get_elem? (slice_set s.views id both) other ≡ some u
    → (h' : EpochRule K G lawful names key record { words = s.words; homes = s.homes; views = slice_set (slice_set s.views id both) other spent })
    × (h'.world ≡ goes h.world) × (h'.events ≡ on h.events)
