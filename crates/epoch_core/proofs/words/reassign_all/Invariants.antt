use Rattle.std.proofs.Common.{◌≡◌, ◌++◌, ℕ, List, [], length}
use Rattle.epoch_core.specs.declared.view.Role.TheVariants.{Control}
use Rattle.epoch_core.specs.Fresh.{latest_first}
use Rattle.epoch_core.specs.History.{ReassignSteps}
use Rattle.epoch_core.specs.Rule.{control_own}
use Rattle.epoch_core.specs.SeatViews.{IsBooked}
use Rattle.epoch_core.proofs.words.reassign_all.Given as goal

abbrev pub invariant-loop-next : goal.invariant-loop-next
invariant-loop-next g l =
    (l.place.table_id ≡ l.fn.place.table_id) × (l.place.me.1 ≡ l.fn.place.me.1) × (l.place.me.0.key ≡ l.fn.place.me.0.key)
    × (l.place.me.0.role ≡ Control (control_own l.place))
    × IsBooked (control_own l.place) l.booked
    × ((front : List (ℕ × ℕ)) × (left : List (ℕ × ℕ)) × (l.fresh ≡ front ++ left) × (length front ≡ l.next)
    × (control_own l.place ≡ record (control_own l.fn.place) { done = latest_first front []; booked = (control_own l.place).booked }) × ReassignSteps l.fn.place.me.0.steps (latest_first front []) l.place.me.0.steps)
