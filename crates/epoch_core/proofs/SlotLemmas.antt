-- Slots that are given back, in turn, with the values of a list.
use Rattle.std.proofs.Common.{◌≡◌, ◌≢◌, ℕ, zero, suc, ◌+◌, ◌*◌, ◌%◌, ◌<◌, ◌≤◌, Bool, true, false, true≢false, if◌then◌else◌, List, [], ◌∷◌, ◌++◌, length, get_or, set, Option, Some, refl, sym, ap, ◌∙◌, subst, arith, nat_lt, length-set, get_or-set_other, get_or-set_same}
use Rattle.std.proofs.lemmas.Bool.Decides.{nat_tests}
use mathlib.Core.Logic.{dite}
use mathlib.Core.Option.{none, some}
use mathlib.Core.Option as maybe
use native.Mathlib.Decide.{ℕ_discrete}
use lib.ListN.{get_elem?}
use lib.Seq.{set-get_or}
use Rattle.std.proofs.Math.Nat.{mod-lt}
use Rattle.atomic_table.specs.Table.{State, Act, keeps, takes, gives, chain, stepped, rest, put_back, homes_after, carried_after, Valid, Allows}
use Rattle.atomic_table.proofs.Lists.{set_here, set_else}
use Rattle.epoch_core.specs.declared.event.Event.{Event}
use Rattle.epoch_core.specs.declared.event.Event.TheVariants as event
use Rattle.epoch_core.specs.declared.view.ControlOwn.{ControlOwn}
use Rattle.epoch_core.specs.declared.view.Made.{Made}
use Rattle.epoch_core.specs.declared.view.Phase.{Phase}
use Rattle.epoch_core.specs.declared.view.Phase.TheVariants.{Idle, Standing, Holding}
use Rattle.epoch_core.specs.declared.view.Role.{Role}
use Rattle.epoch_core.specs.declared.view.Role.TheVariants.{Spent, Reader, Control, Note}
use Rattle.epoch_core.specs.declared.view.View.{View}
use Rattle.epoch_core.specs.World as w
use Rattle.epoch_core.specs.World.{World, Spot, home, control, opening, word_value}
use Rattle.epoch_core.specs.Step.{are_distinct, each_among, all_passed, may_pass, passed_reader, scanned_reader, enabled, effect, step, run}
use Rattle.epoch_core.specs.Sound.{Sound, PhaseFits, ReaderSound}
use Rattle.epoch_core.specs.Rule.{Ended, slot_of, Owners, EndedFit, RoleFits, PartFits, PlaceHas, EpochRule}
use Rattle.epoch_core.specs.Follows.{Follows}
use Rattle.epoch_core.specs.Plays.{Mine, view, ControlGoes, scans, publishes, Each, StandsNext, scanned_control, published_control, filled_places}
use Rattle.epoch_core.specs.History.{OneMore, made_of, history, is_of_reader, is_of_control}
use Rattle.epoch_core.proofs.HistoryLemmas.{run_more, now_at, history_more, control_more, part_stays, Says, not_by_beside}
use Rattle.epoch_core.proofs.ReaderLemmas.{replaced_at_here, replaced_at_else, replaced_at_all, kept, passed_phase_fits, not_next_bank, scanned_reader_kept}
use Rattle.epoch_core.proofs.ReaderSteps.{views_after, fits_at, lt_is, takes_effect, allows}
use Rattle.epoch_core.proofs.WorldLemmas.{effect_sound}

-- as many slots as the list has elements are given back
abbrev pub gives_all : {S A : Type 0} → List A → Act S
gives_all [] = keeps
gives_all (x ∷ xs) = chain gives (gives_all xs)

abbrev pub Shelf : Type 0 → Type 0
Shelf C = List (maybe.Option (Option C))

module _ {C : Type 0} where
  abbrev pub back : Shelf C → ℕ → ℕ → List C → Shelf C
  back hs b m cs = homes_after hs (filled_places b m cs) (gives_all cs)

  pub back_length : (hs : Shelf C) (b m : ℕ) (cs : List C) → length (back hs b m cs) ≡ length hs
  back_length hs b m [] = refl
  back_length hs b m (c ∷ cs) = back_length (set hs (slot_of b (m + length cs)) (some (Some c))) b m cs ∙ length-set hs (slot_of b (m + length cs)) (some (Some c))

  pub back_else : (hs : Shelf C) (b m : ℕ) (cs : List C) (j : ℕ) → ((r : ℕ) → m ≤ r → r < m + length cs → j ≢ slot_of b r) → get_elem? (back hs b m cs) j ≡ get_elem? hs j
  back_else hs b m [] j n = refl
  back_else hs b m (c ∷ cs) j n =
      let i : ℕ = slot_of b (m + length cs) in
      back_else (set hs i (some (Some c))) b m cs j (λ r l u. n r l (omega arith)) ∙ set_else hs i j (some (Some c)) (n (m + length cs) (omega arith) (omega arith))

  pub back_here : (P : C → Type 0) (hs : Shelf C) (b m : ℕ) (cs : List C) (r : ℕ) → m ≤ r → r < m + length cs → slot_of b (m + length cs) ≤ length hs → Each P cs → (c : C) × (get_elem? (back hs b m cs) (slot_of b r) ≡ some (some (Some c))) × P c
  back_here P hs b m [] r l u wide all = absurd (omega arith)
  back_here P hs b m (c ∷ cs) r l u wide all =
      let i : ℕ = slot_of b (m + length cs) in
      let hs' : Shelf C = set hs i (some (Some c)) in
      dite (ℕ_discrete r (m + length cs))
      (λ e. (c, back_else hs' b m cs (slot_of b r) (λ q v w d. omega arith) ∙ (ap (λ (k : ℕ). get_elem? hs' (slot_of b k)) e ∙ set_here hs i (some (Some c)) (omega arith)), all.0))
      (λ n. let long : length hs' ≡ length hs = length-set hs i (some (Some c)) in back_here P hs' b m cs r l (omega arith) (omega arith) all.1)

  pub back_valid : (hs : Shelf C) (l : List (ℕ × Option C)) (cs : List C) → Valid hs l (gives_all cs)
  back_valid hs l [] = tt
  back_valid hs l (c ∷ cs) = (tt, back_valid (put_back hs l) (rest l) cs)

  pub back_carried : (b m : ℕ) (cs : List C) → carried_after (filled_places b m cs) (gives_all {S = Option C} cs) ≡ []
  back_carried b m [] = refl
  back_carried b m (c ∷ cs) = back_carried b m cs
