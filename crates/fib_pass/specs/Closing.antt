-- How the passes of a fib come apart and together, and how its end fails.
use Rattle.std.specs.Prelude.{◌≡◌, ℕ, ◌+◌, ◌<◌, ◌≤◌, List, [], ◌∷◌, length, map, replicate, All, vec_capacity}
use Rattle.std.specs.Arc.{arc_value}
use Rattle.std.specs.List.Sorted.{IsStrictlySortedBy}
use Rattle.std.specs.Map.{keys_of}
use Rattle.prefix_width.specs.Order.{hop_cmp}
use Rattle.rib_store.specs.Plan.{IsNumbering, Planned, firsts, named}
use Rattle.epoch_core.specs.SeatViews.{ControlView, ReaderView}
use Rattle.fib_pass.specs.declared.pass.Beside.{Beside}
use Rattle.fib_pass.specs.declared.closing.Sheet.{Sheet}
use Rattle.fib_pass.specs.declared.closing.Lists.{Lists}
use Rattle.fib_pass.specs.declared.closing.FibCloseError.{FibCloseError}
use Rattle.fib_pass.specs.declared.closing.FibCloseError.TheVariants.{Missing, OutOfMemory}
use Rattle.fib_pass.specs.Totals.{end_of}
use Rattle.fib_pass.specs.Views.{IsPass, PassView}

-- the passes of seats and of what they have beside them
abbrev pub joined : {w : ℕ} → List (ReaderView (Planned w)) → List (Beside w) → List (PassView w)
joined [] rests = []
joined (s ∷ seats) [] = []
joined (s ∷ seats) (b ∷ rests) = record { seat = s; lookups = b.lookups } ∷ joined seats rests

-- the seats and what is beside them are those of passes, one by one
abbrev pub AreOf : {w : ℕ} → List (ReaderView (Planned w)) → List (Beside w) → Type 0
AreOf [] [] = Unit {0}
AreOf [] (b ∷ rests) = ⊥
AreOf (s ∷ seats) [] = ⊥
AreOf (s ∷ seats) (b ∷ rests) = IsPass (arc_value b.plan) s b.lookups × AreOf seats rests

-- the sheet for the totals of these passes, before they are counted
pub record IsSheet {w : ℕ} (plan : Planned w) (passes : List (PassView w)) (s : Sheet w) : Type 0 where
  pub numbering : IsNumbering (firsts (named plan)) s.order.items
  pub ordered : IsStrictlySortedBy hop_cmp (keys_of s.order.items)
  pub places : s.places.items ≡ replicate (length (firsts (named plan)) + 1) 0
  pub packets : (s.packets.items ≡ []) × (length s.order.items ≤ vec_capacity s.packets)
  pub ends : s.ends.items ≡ map end_of passes
  pub few : All (λ e. e.lookups ≤ 16777216) s.ends.items

-- empty lists with room for n
pub record HaveRoom {w K live : ℕ} (n : ℕ) (l : Lists w K live) : Type 0 where
  pub seats : (l.seats.items ≡ []) × (n ≤ vec_capacity l.seats)
  pub beside : (l.beside.items ≡ []) × (n ≤ vec_capacity l.beside)
  pub spare : (l.spare.items ≡ []) × (n ≤ vec_capacity l.spare)

-- the publisher and the passes come back as they were; passes are missing where they are fewer than were started, and want of
-- memory is told only where they aren't
abbrev pub HandsBack : {w K live : ℕ} → ControlView (Planned w) → List (PassView w) → FibCloseError w K live → Type 0
HandsBack c passes (Missing publisher given) = (publisher ≡ c) × (given.items ≡ passes) × (length passes < c.own.readers)
HandsBack c passes (OutOfMemory publisher given) = (publisher ≡ c) × (given.items ≡ passes) × (c.own.readers ≤ length passes)
